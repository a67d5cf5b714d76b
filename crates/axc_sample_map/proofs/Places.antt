-- The places of the bits of a block, over plain numbers.
use Rattle.std.proofs.Common.{◌≡◌, ℕ, ◌+◌, ◌-◌, ◌*◌, ◌/◌, ◌%◌, ◌<◌, ◌≤◌, List, length, sym, ap, ◌∙◌, arith, ⊎_elim}
use Rattle.std.specs.Int.{div_ceil}
use Rattle.std.proofs.lemmas.Bool.{cases_lt}
use Rattle.std.proofs.lemmas.Nat.{mul-le, le-div, div_below, div-mul-add, mod-mul-add}
use Rattle.link_base.specs.Bits.{bit_of}
use Rattle.sample_bits.specs.BlockPlace.{BlockPlace, bit_in_block}
use Rattle.sample_bits.specs.Blocks.{IsSpan, IsStuffed, PutsContainer}
use Rattle.sample_bits.proofs.RateLemmas.{some_frames, div_ceil-enough, div_ceil-least}
use Rattle.axc_sample_map.specs.Container.{bit_in_run, prescribed_size}
use Rattle.axc_sample_map.specs.Place.{place_in_block}
use Rattle.axc_sample_map.specs.Laws.{PlacesAreWithin, PlacesAreDistinct, PlacesAreInTime}

-- ---- the containers of a block

-- have room for all of its samples
pub containers_enough : (m s k : ℕ) → 1 ≤ k → 2 * m * s ≤ k * prescribed_size m s k
containers_enough m s k some = let room = div_ceil-enough (m * s) k some in omega arith

-- and less than 2 bits more in each
pub containers_least : (m s k : ℕ) → 1 ≤ k → k * prescribed_size m s k < 2 * m * s + 2 * k
containers_least m s k some = let least = div_ceil-least (m * s) k some in omega arith

-- in a block of one frame
pub size_of_one : (m s k : ℕ) → k ≡ 1 → prescribed_size m s k ≡ 2 * m * s
size_of_one m s k one =
    let enough = div_ceil-enough (m * s) k (omega arith) in
    let least = div_ceil-least (m * s) k (omega arith) in
    let scaled = ap (λ n. div_ceil (m * s) k * n) one in
    omega arith

-- a bit below another number of containers
bits_below : (m s r b : ℕ) → r < s → b < 2 * m → 2 * m * r + b < 2 * m * s
bits_below m s r b within small =
    let all = mul-le (2 * m) (r + 1) (2 * m) s (omega arith) (omega arith) in
    omega arith

pub some_bits : (m s k : ℕ) → 1 ≤ m → 1 ≤ s → 1 ≤ k → 1 ≤ prescribed_size m s k
some_bits m s k width samples frames =
    let room = containers_enough m s k frames in
    let some = mul-le 1 1 m s width samples in
    ⊎_elim
    (λ none. let zero : prescribed_size m s k ≡ 0 = omega arith in absurd (omega (arith, ap (λ n. k * n) zero)))
    (λ h. h)
    (cases_lt (prescribed_size m s k) 1)

-- ---- the bits of a block in its containers

pub bit_in_block-place : (m s k r b : ℕ) → 1 ≤ prescribed_size m s k → bit_in_block (prescribed_size m s k) (place_in_block m s k r b) ≡ 2 * m * r + b
unfolding place_in_block
bit_in_block-place m s k r b some = omega arith

pub PlacesAreWithin-holds : PlacesAreWithin
unfolding place_in_block
PlacesAreWithin-holds m s k r b width rate within small =
    let frames = some_frames s k rate in
    let some = some_bits m s k (omega arith) (omega arith) frames in
    let room = containers_enough m s k frames in
    let below = bits_below m s r b within small in
    let size = prescribed_size m s k in
    (div_below (2 * m * r + b) size k some (omega arith), omega arith)

same_bit : (w r b other c : ℕ) → b < w → c < w → w * r + b ≡ w * other + c → (r ≡ other) × (b ≡ c)
same_bit w r b other c small also same =
    let turned : r * w + b ≡ other * w + c = omega arith in
    let samples : r ≡ other = sym (div-mul-add r w b small) ∙ ap (λ n. n / w) turned ∙ div-mul-add other w c also in
    let products = ap (λ n. n * w) samples in
    (samples, omega arith)

same_in_block : (size : ℕ) (p q : BlockPlace) → p.phase ≡ q.phase → p.bit ≡ q.bit → bit_in_block size p ≡ bit_in_block size q
same_in_block size p q phases bits = ap (λ n. n * size + p.bit) phases ∙ ap (λ n. q.phase * size + n) bits

pub PlacesAreDistinct-holds : PlacesAreDistinct
unfolding place_in_block
PlacesAreDistinct-holds m s k r b other c width rate within small also_within also_small phases bits =
    let some = some_bits m s k (omega arith) (omega arith) (some_frames s k rate) in
    let size = prescribed_size m s k in
    let here = bit_in_block-place m s k r b some in
    let there = bit_in_block-place m s k other c some in
    same_bit (2 * m) r b other c small also_small
    (sym here ∙ same_in_block size (place_in_block m s k r b) (place_in_block m s k other c) phases bits ∙ there)

-- A block of s samples of w bits each stands in k containers of n bits. A bit of sample r stands in the first c of these,
-- where c/k of the samples are more than r.
in_time : (w s k n r c g : ℕ) → 1 ≤ s → 1 ≤ k → w * s ≤ k * n → (r + 1) * k ≤ c * s → g < w * (r + 1) → g < c * n
in_time w s k n r c g samples frames room time below = ⊎_elim
    (λ h. h)
    (λ above.
    let some = mul-le 1 1 s k samples frames in
    let more = mul-le (c * n + 1) (s * k) (w * (r + 1)) (s * k) (omega arith) (omega arith) in
    let less = mul-le ((r + 1) * k) (w * s) (c * s) (k * n) time room in
    absurd (omega arith))
    (cases_lt g (c * n))

pub PlacesAreInTime-holds : PlacesAreInTime
unfolding place_in_block
PlacesAreInTime-holds m s k r b width rate within small =
    let frames = some_frames s k rate in
    let some = some_bits m s k (omega arith) (omega arith) frames in
    let room = containers_enough m s k frames in
    let size = prescribed_size m s k in
    let last = div_ceil ((r + 1) * k) s in
    let time = div_ceil-enough ((r + 1) * k) s (omega arith) in
    let below : 2 * m * r + b < last * size = in_time (2 * m) s k size r last (2 * m * r + b) (omega arith) frames room time (omega arith) in
    let before = div_below (2 * m * r + b) size last some below in
    omega arith

-- ---- the frames that a sample stands in

div-mono : (a b n : ℕ) → 0 < n → a ≤ b → a / n ≤ b / n
div-mono a b n some below = le-div (a / n) b n some (omega arith)

pub IsSpan-place : (m s k r : ℕ) → 1 ≤ m → 1 ≤ prescribed_size m s k
    → IsSpan m (place_in_block m s k r) (2 * m * r / prescribed_size m s k) ((2 * m * r + 2 * m - 1) / prescribed_size m s k)
unfolding place_in_block
IsSpan-place m s k r width some =
    let n = prescribed_size m s k in
    let begin : 2 * m * r + 0 ≡ 2 * m * r = omega arith in
    let end : 2 * m * r + (2 * m - 1) ≡ 2 * m * r + 2 * m - 1 = omega arith in
    record {
      from_first = λ b h. div-mono (2 * m * r) (2 * m * r + b) n some (omega arith);
      to_last = λ b h. div-mono (2 * m * r + b) (2 * m * r + 2 * m - 1) n some (omega arith);
      first_holds = (0, omega arith, ap (λ g. g / n) begin);
      last_holds = (2 * m - 1, omega arith, ap (λ g. g / n) end);
    }

-- ---- bits of samples one after another

pub bit_in_run-at : (w : ℕ) (bits : ℕ → ℕ → ℕ) (r b g : ℕ) → b < w → g ≡ w * r + b → bit_in_run w bits g ≡ bits r b
bit_in_run-at w bits r b g small e =
    let turned : g ≡ r * w + b = omega arith in
    let sample : g / w ≡ r = ap (λ n. n / w) turned ∙ div-mul-add r w b small in
    let place : g % w ≡ b = ap (λ n. n % w) turned ∙ mod-mul-add r w b small in
    ap (λ n. bits n (g % w)) sample ∙ ap (bits r) place

place-phase : (m s k r b g : ℕ) → 2 * m * r + b ≡ g → (place_in_block m s k r b).phase ≡ g / prescribed_size m s k
unfolding place_in_block
place-phase m s k r b g e = ap (λ n. n / prescribed_size m s k) e

place-bit : (m s k r b g : ℕ) → 2 * m * r + b ≡ g → (place_in_block m s k r b).bit ≡ g % prescribed_size m s k
unfolding place_in_block
place-bit m s k r b g e = ap (λ n. n % prescribed_size m s k) e

-- a place from its frame and its bit
bit_in_block-at : (m s k r b phase : ℕ) → 1 ≤ prescribed_size m s k → (place_in_block m s k r b).phase ≡ phase → phase * prescribed_size m s k + (place_in_block m s k r b).bit ≡ 2 * m * r + b
bit_in_block-at m s k r b phase some there =
    ap (λ p. p * prescribed_size m s k + (place_in_block m s k r b).bit) (sym there) ∙ bit_in_block-place m s k r b some

-- A container holds the bits of samples one after another from the first bit of its frame on.
module _ (m s k phase : ℕ) (bits : ℕ → ℕ → ℕ) (old sub : List ℕ) (low : ℕ) (width : 1 ≤ m) (some : 1 ≤ prescribed_size m s k)
    (ends : (r b : ℕ) → s ≤ r → bits r b ≡ 0)
    (put : (x : ℕ) → x < prescribed_size m s k → bit_of sub (low + x) ≡ bit_in_run (2 * m) bits (phase * prescribed_size m s k + x)) where
  run-samples : (r b : ℕ) → r < s → b < 2 * m → (place_in_block m s k r b).phase ≡ phase → (place_in_block m s k r b).bit < prescribed_size m s k → bit_of sub (low + (place_in_block m s k r b).bit) ≡ bits r b
  run-samples r b within small there inside =
      put (place_in_block m s k r b).bit inside
      ∙ bit_in_run-at (2 * m) bits r b (phase * prescribed_size m s k + (place_in_block m s k r b).bit) small (bit_in_block-at m s k r b phase some there)

  run-stuffing : (x : ℕ) → x < prescribed_size m s k → IsStuffed m s (place_in_block m s k) phase x → bit_of sub (low + x) ≡ 0
  run-stuffing x h none =
      let n = prescribed_size m s k in
      let g : ℕ = phase * n + x in
      let r : ℕ = g / (2 * m) in
      let b : ℕ = g % (2 * m) in
      let whole : 2 * m * r + b ≡ g = omega arith in
      put x h
      ∙ ⊎_elim
      (λ within. absurd (none r b within (omega arith)
      (place-phase m s k r b g whole ∙ div-mul-add phase n x h)
      (place-bit m s k r b g whole ∙ mod-mul-add phase n x h)))
      (ends r b)
      (cases_lt r s)

pub PutsContainer-run : (m s k phase : ℕ) (bits : ℕ → ℕ → ℕ) (old sub : List ℕ) (low : ℕ) → 1 ≤ m → 1 ≤ prescribed_size m s k → length sub ≡ length old
    → ((r b : ℕ) → r < s → b < 2 * m → (place_in_block m s k r b).bit < prescribed_size m s k)
    → ((r b : ℕ) → s ≤ r → bits r b ≡ 0)
    → ((x : ℕ) → x < prescribed_size m s k → bit_of sub (low + x) ≡ bit_in_run (2 * m) bits (phase * prescribed_size m s k + x))
    → ((x : ℕ) → x < low → bit_of sub x ≡ bit_of old x) → ((x : ℕ) → low + prescribed_size m s k ≤ x → bit_of sub x ≡ bit_of old x)
    → PutsContainer m s (prescribed_size m s k) (place_in_block m s k) phase bits old sub low
PutsContainer-run m s k phase bits old sub low width some same inside ends put before after = record {
  same_length = same;
  samples = λ r b within small there. run-samples m s k phase bits old sub low width some ends put r b within small there (inside r b within small);
  stuffing = run-stuffing m s k phase bits old sub low width some ends put;
  before = before;
  after = after;
}
