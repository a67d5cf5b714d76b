-- The draws of the next packet, and the fates so far.
use Rattle.std.proofs.Common.{◌≡◌, ℕ, suc, ◌+◌, ◌%◌, ◌==◌, [], ◌∷◌, ◌++◌, length, cond, refl, ◌∙◌, arith, add-one}
use Rattle.std.proofs.lemmas.Bool.{cond-false, cond-true, ne_eqb}
use Rattle.std.proofs.lemmas.Bool.Decides.{Decides-eqb}
use Rattle.std.proofs.lemmas.List.FromFn.{length-map-range_with_len, map-range_with_len_more}
use Rattle.link_drill.specs.Draws.{draw}
use Rattle.link_drill.specs.Fates.{fate_draw, fate_of, fates_of}

pub fate_draw-none : (number first : ℕ) → fate_draw number first 0 ≡ first
unfolding fate_draw
fate_draw-none number first = refl

fate_draw-suc : (number first i : ℕ)
    → fate_draw number first (suc i) ≡ cond (draw number (fate_draw number first i) % 16 == 0) (fate_draw number first i + 1) (fate_draw number first i + 2)
unfolding fate_draw
fate_draw-suc number first i = refl

pub fate_draw-more : (number first i : ℕ)
    → fate_draw number first (i + 1) ≡ cond (draw number (fate_draw number first i) % 16 == 0) (fate_draw number first i + 1) (fate_draw number first i + 2)
fate_draw-more number first i = rw add-one (fate_draw-suc number first i)

pub fates_of-none : (number first : ℕ) → fates_of number first 0 ≡ []
unfolding fates_of
fates_of-none number first = refl

pub fates_of-more : (number first n : ℕ) → fates_of number first (n + 1) ≡ fates_of number first n ++ fate_of number first n ∷ []
unfolding fates_of
fates_of-more number first n = map-range_with_len_more (fate_of number first) 0 n n (omega arith)

pub fate_draw-lost : (number first i : ℕ) → draw number (fate_draw number first i) % 16 ≡ 0 → fate_draw number first (i + 1) ≡ fate_draw number first i + 1
fate_draw-lost number first i zero_kind =
    let k = fate_draw number first i in
    fate_draw-more number first i ∙ cond-true {A = ℕ} (draw number k % 16 == 0) (k + 1) (k + 2) ((Decides-eqb (draw number k % 16) 0).1 zero_kind)

pub fate_draw-arrives : (number first i : ℕ) → (draw number (fate_draw number first i) % 16 ≡ 0 → ⊥) → fate_draw number first (i + 1) ≡ fate_draw number first i + 2
fate_draw-arrives number first i other_kind =
    let k = fate_draw number first i in
    fate_draw-more number first i ∙ cond-false {A = ℕ} (draw number k % 16 == 0) (k + 1) (k + 2) (ne_eqb (draw number k % 16) 0 other_kind)

pub length-fates_of : (number first n : ℕ) → length (fates_of number first n) ≡ n
unfolding fates_of
length-fates_of number first n = length-map-range_with_len (fate_of number first) 0 n
