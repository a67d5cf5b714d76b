-- Vectors of octets, lane by lane, and the hexadecimal digits put together from them.
use Rattle.std.proofs.Common.{◌≡◌, ℕ, zero, suc, ◌+◌, ◌-◌, ◌*◌, ◌/◌, ◌%◌, ◌<◌, ◌≤◌, true, cond, eqb, List, [], ◌∷◌, ◌++◌, length, get_or, map, replicate, Fits, w8, inl, inr, refl, sym, ap, ◌∙◌, arith}
use Rattle.std.specs.Prelude.{slice_index}
use Rattle.std.specs.Simd.Lanes.{zip2, sel_l, top, chunk, put_chunk, Each1, Each2}
use Rattle.std.proofs.lemmas.Bool.{agree_below, agree_below_at, eqb-true, cases_eq, cases_lt}
use Rattle.std.proofs.lemmas.Simd.{length-chunk, get_or-chunk, get_or-put_chunk_at, get_or-put_chunk_below, length-put_chunk}
use Rattle.std.proofs.lemmas.List.{get_or-map, length-map, get_or_append_left, get_or-append_right}
use Rattle.std.proofs.lemmas.List.FromFn.{get_or-map-range_with_len, length-map-range_with_len}
use Rattle.hex.specs.Hex.{encode_with, encode_lower, lower_digits}
use Rattle.link_text.specs.Lanes.{digit_of, digit_at, turns}
use Rattle.link_text.proofs.LaneLemmas.{same_map}

-- what is asked of each lane beside the same one
pub each_beside : (P : ℕ → ℕ → Type 0) (y : ℕ) → ((x : ℕ) → P x y) → (n : ℕ) (xs : List ℕ) → Each2 P xs (replicate n y)
each_beside P y h zero [] = tt
each_beside P y h zero (x ∷ xs) = tt
each_beside P y h (suc n) [] = tt
each_beside P y h (suc n) (x ∷ xs) = (h x, each_beside P y h n xs)

-- the digit that the vectors' operations give one value
abbrev lane_digit : (add lt : ℕ → ℕ → ℕ) → ℕ → ℕ
lane_digit add lt x = cond (top 7 (lt x 10)) (add x 48) (add x 87)

abbrev lane_digits : (add lt : ℕ → ℕ → ℕ) → ℕ → List ℕ → List ℕ
lane_digits add lt n v = sel_l (map (top 7) (zip2 lt v (replicate n 10))) (zip2 add v (replicate n 48)) (zip2 add v (replicate n 87))

by_lanes : (add lt : ℕ → ℕ → ℕ) (v : List ℕ) → lane_digits add lt (length v) v ≡ map (lane_digit add lt) v
by_lanes add lt [] = refl
by_lanes add lt (x ∷ xs) = ap (λ more. lane_digit add lt x ∷ more) (by_lanes add lt xs)

-- the operations give each value its digit, as all 256 tell
pub digits_are : (add lt : ℕ → ℕ → ℕ) (v : List ℕ) → length v ≡ 32 → Each1 (Fits w8) v
    → agree_below (λ x. eqb (lane_digit add lt x) (digit_of x)) (λ _. true) 256 ≡ true → lane_digits add lt 32 v ≡ map digit_of v
digits_are add lt v long fits test =
    ap (λ n. lane_digits add lt n v) (sym long) ∙ by_lanes add lt v ∙ same_map (lane_digit add lt) digit_of test v fits

-- the digits of one half of the octets
half_at : (octets : List ℕ) (half : ℕ → ℕ) (at i : ℕ) → at + 32 ≤ length octets → i < 32
    → get_or (map digit_of (map half (chunk at 32 octets))) i 0 ≡ digit_of (half (get_or octets (at + i) 0))
half_at octets half at i within below =
    let long = length-chunk at 32 octets within in
    get_or-map digit_of (map half (chunk at 32 octets)) i 0 0 (omega (arith, length-map (chunk at 32 octets) half, long))
    ∙ ap digit_of (get_or-map half (chunk at 32 octets) i 0 0 (omega (arith, long)))
    ∙ ap (λ x. digit_of (half x)) (get_or-chunk at 32 octets i 0 below)

digit_at-even : (octets : List ℕ) (k : ℕ) → k % 2 ≡ 0 → digit_of (slice_index octets (k / 2) / 16) ≡ digit_at octets k
digit_at-even octets k even = rw even refl

digit_at-odd : (octets : List ℕ) (k : ℕ) → k % 2 ≡ 1 → digit_of (slice_index octets (k / 2) % 16) ≡ digit_at octets k
digit_at-odd octets k odd = rw odd refl

-- the two halves in turn
turn_is : (octets high low : List ℕ) (at k : ℕ) → high ≡ map digit_of (map (λ x. x / 16) (chunk at 32 octets))
    → low ≡ map digit_of (map (λ x. x % 16) (chunk at 32 octets)) → at + 32 ≤ length octets → 2 * at ≤ k → k < 2 * at + 64
    → get_or (high ++ low) ((k - 2 * at) / 2 + 32 * ((k - 2 * at) % 2)) 0 ≡ digit_at octets k
turn_is octets high low at k high_is low_is within from to =
    let long : length high ≡ 32 =
    ap length high_is ∙ length-map (map (λ x. x / 16) (chunk at 32 octets)) digit_of ∙ length-map (chunk at 32 octets) (λ x. x / 16) ∙ length-chunk at 32 octets within in
    let place : at + (k - 2 * at) / 2 ≡ k / 2 = omega arith in
    elim (cases_eq (k % 2) 0) as (λ _. get_or (high ++ low) ((k - 2 * at) / 2 + 32 * ((k - 2 * at) % 2)) 0 ≡ digit_at octets k) [
      | inl even ↦
          let index : (k - 2 * at) / 2 + 32 * ((k - 2 * at) % 2) ≡ (k - 2 * at) / 2 = omega (arith, even) in
          ap (λ i. get_or (high ++ low) i 0) index
          ∙ get_or_append_left high low 0 ((k - 2 * at) / 2) (omega (arith, long))
          ∙ ap (λ l. get_or l ((k - 2 * at) / 2) 0) high_is
          ∙ half_at octets (λ x. x / 16) at ((k - 2 * at) / 2) within (omega arith)
          ∙ ap (λ i. digit_of (get_or octets i 0 / 16)) place
          ∙ digit_at-even octets k even
      | inr odd ↦
          let index : (k - 2 * at) / 2 + 32 * ((k - 2 * at) % 2) ≡ 32 + (k - 2 * at) / 2 = omega (arith, odd) in
          let after : 32 + (k - 2 * at) / 2 - 32 ≡ (k - 2 * at) / 2 = omega arith in
          ap (λ i. get_or (high ++ low) i 0) index
          ∙ get_or-append_right high low 32 (32 + (k - 2 * at) / 2) 0 long (omega arith)
          ∙ ap (λ i. get_or low i 0) after
          ∙ ap (λ l. get_or l ((k - 2 * at) / 2) 0) low_is
          ∙ half_at octets (λ x. x % 16) at ((k - 2 * at) / 2) within (omega arith)
          ∙ ap (λ i. digit_of (get_or octets i 0 % 16)) place
          ∙ digit_at-odd octets k (omega (arith, odd))
    ]

turns_at : (lanes : List ℕ) (from i j : ℕ) → i < 32 → j ≡ from + i → get_or (turns lanes from) i 0 ≡ slice_index lanes (j / 2 + 32 * (j % 2))
turns_at lanes from i j below is = get_or-map-range_with_len (λ k. slice_index lanes (k / 2 + 32 * (k % 2))) from 32 i j 0 below (sym is)

-- the digits of the octets at their places
pub digits_put : (octets out high low first second : List ℕ) (at : ℕ) → high ≡ map digit_of (map (λ x. x / 16) (chunk at 32 octets))
    → low ≡ map digit_of (map (λ x. x % 16) (chunk at 32 octets)) → first ≡ turns (high ++ low) 0 → second ≡ turns (high ++ low) 32
    → at + 32 ≤ length octets → 2 * at + 64 ≤ length out → (k : ℕ) → 2 * at ≤ k → k < 2 * at + 64
    → get_or (put_chunk (2 * at + 32) (put_chunk (2 * at) out first) second) k 0 ≡ digit_at octets k
digits_put octets out high low first second at high_is low_is first_is second_is within room k from to =
    let lane = λ (k : ℕ). slice_index (high ++ low) (k / 2 + 32 * (k % 2)) in
    let long : length first ≡ 32 = ap length first_is ∙ length-map-range_with_len lane 0 32 in
    let more : length second ≡ 32 = ap length second_is ∙ length-map-range_with_len lane 32 32 in
    let half = put_chunk (2 * at) out first in
    let same : length half ≡ length out = length-put_chunk (2 * at) out first in
    let digit = turn_is octets high low at k high_is low_is within from to in
    elim (cases_lt k (2 * at + 32)) as (λ _. get_or (put_chunk (2 * at + 32) half second) k 0 ≡ digit_at octets k) [
      | inl early ↦
          let place : 2 * at + (k - 2 * at) ≡ k = omega arith in
          get_or-put_chunk_below (2 * at + 32) half second k 0 early
          ∙ ap (λ i. get_or half i 0) (sym place)
          ∙ get_or-put_chunk_at (2 * at) out first (k - 2 * at) 0 (omega (arith, long)) (omega (arith, long))
          ∙ ap (λ l. get_or l (k - 2 * at) 0) first_is
          ∙ turns_at (high ++ low) 0 (k - 2 * at) (k - 2 * at) (omega arith) (omega arith)
          ∙ digit
      | inr late ↦
          let place : 2 * at + 32 + (k - (2 * at + 32)) ≡ k = omega arith in
          ap (λ i. get_or (put_chunk (2 * at + 32) half second) i 0) (sym place)
          ∙ get_or-put_chunk_at (2 * at + 32) half second (k - (2 * at + 32)) 0 (omega (arith, more)) (omega (arith, more, same))
          ∙ ap (λ l. get_or l (k - (2 * at + 32)) 0) second_is
          ∙ turns_at (high ++ low) 32 (k - (2 * at + 32)) (k - 2 * at) (omega arith) (omega arith)
          ∙ digit
    ]

-- ---- the text of octets

digit_is : (v : ℕ) → v < 16 → digit_of v ≡ slice_index lower_digits v
digit_is v below = eqb-true _ _ (agree_below_at (λ v. eqb (digit_of v) (slice_index lower_digits v)) (λ _. true) 16 v refl below)

-- after two digits the octets are one place on
digit_next : (x : ℕ) (xs : List ℕ) (k : ℕ) → digit_at (x ∷ xs) (suc (suc k)) ≡ digit_at xs k
digit_next x xs k =
    let rest : suc (suc k) % 2 ≡ k % 2 = omega arith in
    let place : suc (suc k) / 2 ≡ suc (k / 2) = omega arith in
    rw (rest, place) refl

encoded : (octets out : List ℕ) → ((i : ℕ) → get_or octets i 0 < 256) → length out ≡ 2 * length octets
    → ((k : ℕ) → k < length out → get_or out k 0 ≡ digit_at octets k) → out ≡ encode_with lower_digits octets
unfolding encode_with
encoded [] [] small long digits = refl
encoded [] (a ∷ out) small long digits = absurd (omega arith)
encoded (x ∷ xs) [] small long digits = absurd (omega arith)
encoded (x ∷ xs) (a ∷ []) small long digits = absurd (omega arith)
encoded (x ∷ xs) (a ∷ b ∷ rest) small long digits =
    let below : x < 256 = small 0 in
    let first : a ≡ slice_index lower_digits (x / 16) = digits 0 (omega arith) ∙ digit_is (x / 16) (omega arith) in
    let second : b ≡ slice_index lower_digits (x % 16) = digits 1 (omega arith) ∙ digit_is (x % 16) (omega arith) in
    let more = encoded xs rest (λ i. small (suc i)) (omega arith) (λ k within. digits (suc (suc k)) (omega arith) ∙ digit_next x xs k) in
    rw (first, second, more) refl

-- a last step ends with the text: digits before it stand as they did
pub encoded_by_steps : (octets before after : List ℕ) (done : ℕ) → ((i : ℕ) → Fits w8 (get_or octets i 0)) → length after ≡ 2 * length octets
    → 32 ≤ length octets → length octets - 32 ≤ done
    → ((k : ℕ) → k < 2 * done → get_or before k 0 ≡ digit_at octets k)
    → ((k : ℕ) → 2 * (length octets - 32) ≤ k → k < 2 * (length octets - 32) + 64 → get_or after k 0 ≡ digit_at octets k)
    → ((k : ℕ) → k < 2 * (length octets - 32) → get_or after k 0 ≡ get_or before k 0)
    → after ≡ encode_lower octets
encoded_by_steps octets before after done fits long enough overlaps digits last stay =
    encoded octets after (λ i. (fits i).fits) long
    (λ k within. elim (cases_lt k (2 * (length octets - 32))) as (λ _. get_or after k 0 ≡ digit_at octets k) [
      | inl early ↦ stay k early ∙ digits k (omega arith)
      | inr late ↦ last k late (omega arith)
    ])
