-- The next draw, and lists of what was drawn.
use Rattle.std.proofs.Common.{◌≡◌, ℕ, suc, ◌+◌, ◌*◌, ◌<◌, ℤ, pos, ◌-ℤ◌, All, length, [], ◌∷◌, ◌++◌, refl, sym, ap, ◌∙◌, arith, add-one}
use Rattle.std.specs.List.{range_with_len}
use Rattle.std.proofs.lemmas.Int.{ints}
use Rattle.std.proofs.lemmas.List.Elements.{All-map}
use Rattle.std.proofs.lemmas.List.FromFn.{length-map-range_with_len, map-range_with_len_more}
use Rattle.std.proofs.lemmas.Nat.{mod_below}
use Rattle.sample_bits.specs.Samples.{FitsBits, IsWithin}
use Rattle.sample_bits.specs.declared.iq.RawIq.{RawIq}
use Rattle.link_drill.specs.Draws.{draw, drawn_sample, drawn_samples, next_seed, seed_after}
use Rattle.link_drill.proofs.Ranges.{All-range}

pub seed_after-none : (number : ℕ) → seed_after number 0 ≡ number
unfolding seed_after
seed_after-none number = refl

seed_after-suc : (number k : ℕ) → seed_after number (suc k) ≡ next_seed (seed_after number k)
unfolding seed_after
seed_after-suc number k = refl

pub seed_after-more : (number k : ℕ) → seed_after number (k + 1) ≡ next_seed (seed_after number k)
seed_after-more number k = rw add-one (seed_after-suc number k)

pub drawn_samples-none : (number : ℕ) → drawn_samples number 0 ≡ []
unfolding drawn_samples
drawn_samples-none number = refl

pub drawn_samples-more : (number n : ℕ) → drawn_samples number (n + 1) ≡ drawn_samples number n ++ drawn_sample number n ∷ []
unfolding drawn_samples
drawn_samples-more number n = map-range_with_len_more (drawn_sample number) 0 n n (omega arith)

-- the seed after one draw more, of a seed in any type
pub next_seed-is : (number k x y : ℕ) → y ≡ x → x ≡ seed_after number k → next_seed y ≡ seed_after number (k + 1)
next_seed-is number k x y same at = ap next_seed (same ∙ at) ∙ sym (seed_after-more number k)

-- a draw, less half of the greatest
abbrev pub signed_draw : ℕ → ℕ → ℤ
signed_draw number k = pos (draw number k) -ℤ pos 16_384

pub drawn_sample-is : (number m : ℕ) (i q : ℤ) → i ≡ signed_draw number (1 + 2 * m) → q ≡ signed_draw number (1 + 2 * m + 1)
    → (let sample : RawIq = record { i = i; q = q } in sample) ≡ drawn_sample number m
drawn_sample-is number m i q first second =
    let place : 1 + 2 * m + 1 ≡ 2 + 2 * m = omega arith in
    let by : ℤ → ℤ → RawIq = λ x y. record { i = x; q = y } in
    ap (λ x. by x q) first ∙ ap (by (signed_draw number (1 + 2 * m))) (second ∙ ap (signed_draw number) place)

-- ---- the samples' width

draw_small : (number k : ℕ) → draw number k < 32_768
draw_small number k =
    let seed = seed_after-more number k in
    let small = mod_below (1_103_515_245 * seed_after number k + 12_345) 2_147_483_648 (omega arith) in
    omega (arith, seed, small)

signed_fits : (d : ℕ) → d < 32_768 → FitsBits 15 (pos d -ℤ pos 16_384)
signed_fits d small = (omega (arith, ints), omega (arith, ints))

pub drawn_samples-within : (number n : ℕ) → All (IsWithin 15) (drawn_samples number n)
unfolding drawn_samples
drawn_samples-within number n =
    All-map (IsWithin 15) (drawn_sample number) (range_with_len 0 n)
    (All-range (λ m. IsWithin 15 (drawn_sample number m)) 0 n
    (λ m low high. record { i = signed_fits (draw number (1 + 2 * m)) (draw_small number (1 + 2 * m)); q = signed_fits (draw number (2 + 2 * m)) (draw_small number (2 + 2 * m)) }))

pub length-drawn_samples : (number n : ℕ) → length (drawn_samples number n) ≡ n
unfolding drawn_samples
length-drawn_samples number n = length-map-range_with_len (drawn_sample number) 0 n
