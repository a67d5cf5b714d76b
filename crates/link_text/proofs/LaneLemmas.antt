-- Vectors of hexadecimal digits, lane by lane, and the octets of a text put together from them.
use Rattle.std.proofs.Common.{◌≡◌, ◌↔◌, ℕ, zero, suc, ◌+◌, ◌-◌, ◌*◌, ◌%◌, ◌^◌, ◌<◌, ◌≤◌, Bool, true, ◌&&◌, IsTrue, cond, eqb, leb, nat_eq, List, [], ◌∷◌, ◌++◌, length, get_or, map, replicate, Option, Some, None, is_some, unwrap_or, Ok, Fits, w8, inl, inr, refl, sym, ap, ap₂, subst, ◌∙◌, arith}
use Rattle.std.specs.Prelude.{slice_index}
use Rattle.std.specs.List.{AllPass}
use Rattle.std.specs.Simd.Lanes.{zip2, sel_l, mask_l, top, chunk, put_chunk, Each1}
use Rattle.std.proofs.lemmas.Bool.{and_parts, agree_below, agree_below_at, eqb-true, cases_lt}
use Rattle.std.proofs.lemmas.Bool.Decides.{nat_tests}
use Rattle.std.proofs.lemmas.Simd.{zip2_splat_left, tops_compared, mask_l-mod, length-chunk, get_or-chunk, get_or-put_chunk_at}
use Rattle.std.proofs.lemmas.List.{get_or-map, length-map, get_or_append_left, get_or-append_right}
use Rattle.std.proofs.lemmas.List.FromFn.{get_or-map-range_with_len, length-map-range_with_len}
use Rattle.std.proofs.lemmas.List.Elements.{All-get_or, All-from_get_or}
use Rattle.hex.specs.Hex.{decode_of, decode_pairs, hex_digit_value, is_hex_digit, pair_value}
use Rattle.hex.proofs.HexLemmas.{decode_of-even}
use Rattle.hex.proofs.Pairs.{cons_byte, decode_pairs-ok_pair}
use Rattle.link_text.specs.Lanes.{value_or_255, joined, pairs_of, octet_at, DigitsBetween}

-- the value that the vectors' operations give one octet
abbrev pub lane_value : (or sub add lt : ℕ → ℕ → ℕ) → ℕ → ℕ
lane_value or sub add lt x =
    cond (top 7 (lt (sub x 48) 10)) (sub x 48) (cond (top 7 (lt (sub (or x 32) 97) 6)) (add (sub (or x 32) 97) 10) 255)

abbrev pub lane_values : (or sub add lt : ℕ → ℕ → ℕ) → ℕ → List ℕ → List ℕ
lane_values or sub add lt n v =
    sel_l (map (top 7) (zip2 lt (zip2 sub v (replicate n 48)) (replicate n 10))) (zip2 sub v (replicate n 48))
    (sel_l (map (top 7) (zip2 lt (zip2 sub (zip2 or v (replicate n 32)) (replicate n 97)) (replicate n 6))) (zip2 add (zip2 sub (zip2 or v (replicate n 32)) (replicate n 97)) (replicate n 10)) (replicate n 255))

by_lanes : (or sub add lt : ℕ → ℕ → ℕ) (v : List ℕ) → lane_values or sub add lt (length v) v ≡ map (lane_value or sub add lt) v
by_lanes or sub add lt [] = refl
by_lanes or sub add lt (x ∷ xs) = ap (λ more. lane_value or sub add lt x ∷ more) (by_lanes or sub add lt xs)

pub same_map : (f g : ℕ → ℕ) → agree_below (λ x. eqb (f x) (g x)) (λ _. true) 256 ≡ true → (v : List ℕ) → Each1 (Fits w8) v → map f v ≡ map g v
same_map f g h [] fits = refl
same_map f g h (x ∷ xs) fits =
    let e : f x ≡ g x = eqb-true (f x) (g x) (agree_below_at (λ x. eqb (f x) (g x)) (λ _. true) 256 x h fits.0.fits) in
    ap (λ y. y ∷ map f xs) e ∙ ap (λ more. g x ∷ more) (same_map f g h xs fits.1)

-- the operations give each octet its value, as all 256 octets tell
pub values_are : (or sub add lt : ℕ → ℕ → ℕ) (v : List ℕ) → length v ≡ 32 → Each1 (Fits w8) v
    → agree_below (λ x. eqb (lane_value or sub add lt x) (value_or_255 x)) (λ _. true) 256 ≡ true
    → lane_values or sub add lt 32 v ≡ map value_or_255 v
values_are or sub add lt v long fits test =
    subst (λ n. lane_values or sub add lt n v ≡ map (lane_value or sub add lt) v) long (by_lanes or sub add lt v)
    ∙ same_map (lane_value or sub add lt) value_or_255 test v fits

-- no bit of the mask is set where each value is below 16
mask_none : (v : List ℕ) → ((k : ℕ) → k < length v → get_or v k 0 < 16) → mask_l (map (leb 16) v) ≡ 0
mask_none [] small = refl
mask_none (x ∷ xs) small =
    let here : x < 16 = small 0 (omega arith) in
    let rest = mask_none xs (λ k within. small (suc k) (omega arith)) in
    grind (arith, nat_tests)

mask_below : (v : List ℕ) → mask_l (map (leb 16) v) ≡ 0 → (k : ℕ) → k < length v → get_or v k 0 < 16
mask_below [] none k within = absurd (omega arith)
mask_below (x ∷ xs) none zero within = grind (arith, nat_tests)
mask_below (x ∷ xs) none (suc k) within =
    let rest : mask_l (map (leb 16) xs) ≡ 0 = grind (arith, nat_tests) in
    mask_below xs rest k (omega arith)

pub mask_tells : (v : List ℕ) → length v ≡ 32
    → IsTrue (nat_eq (mask_l (map (top 7) (zip2 (λ a b. cond (leb a b) 255 0) (replicate 32 16) v)) % 2 ^ 64) 0) ↔ ((k : ℕ) → k < 32 → get_or v k 0 < 16)
mask_tells v long =
    let mask : mask_l (map (top 7) (zip2 (λ a b. cond (leb a b) 255 0) (replicate 32 16) v)) % 2 ^ 64 ≡ mask_l (map (leb 16) v) =
    ap (λ ms. mask_l ms % 2 ^ 64) (tops_compared w8 leb (replicate 32 16) v ∙ zip2_splat_left leb 16 32 v long) ∙ mask_l-mod (map (leb 16) v) 64 (omega (arith, length-map v (leb 16), long)) in
    rw mask (
      λ none k within. mask_below v (eqb-true _ _ none) k (omega (arith, long)),
      λ small. rw (mask_none v (λ k within. small k (omega (arith, long)))) refl,
    )

-- ---- digits and their values

digit_from_small : (o : Option ℕ) → unwrap_or o 255 < 16 → is_some o ≡ true
digit_from_small (Some v) small = refl
digit_from_small None small = absurd (omega arith)

small_from_digit : (c : ℕ) → is_hex_digit c ≡ true → value_or_255 c < 16
small_from_digit c digit = grind (arith)

from_some : (o : Option ℕ) → is_some o ≡ true → o ≡ Some (unwrap_or o 255)
from_some (Some v) some = refl
from_some None some = cc some

-- after two digits the octets are one place on
octet_next : (a b k : ℕ) (rest : List ℕ) → octet_at (a ∷ b ∷ rest) (suc k) ≡ octet_at rest k
octet_next a b k rest =
    let high : 2 * suc k ≡ suc (suc (2 * k)) = omega arith in
    let low : 2 * suc k + 1 ≡ suc (suc (2 * k + 1)) = omega arith in
    ap (λ i. joined (value_or_255 (slice_index (a ∷ b ∷ rest) i)) (value_or_255 (slice_index (a ∷ b ∷ rest) (2 * suc k + 1)))) high
    ∙ ap (λ i. joined (value_or_255 (slice_index rest (2 * k))) (value_or_255 (slice_index (a ∷ b ∷ rest) i))) low

-- the values of 64 digits in two vectors
value_at : (text : List ℕ) (a i : ℕ) → a + 64 ≤ length text → i < 64
    → get_or (map value_or_255 (chunk a 32 text) ++ map value_or_255 (chunk (a + 32) 32 text)) i 0 ≡ value_or_255 (get_or text (a + i) 0)
value_at text a i within below =
    let long : length (map value_or_255 (chunk a 32 text)) ≡ 32 = length-map (chunk a 32 text) value_or_255 ∙ length-chunk a 32 text (omega arith) in
    let more : length (chunk (a + 32) 32 text) ≡ 32 = length-chunk (a + 32) 32 text (omega arith) in
    elim (cases_lt i 32) [
      | inl early ↦
          get_or_append_left (map value_or_255 (chunk a 32 text)) _ 0 i (omega (arith, long))
          ∙ get_or-map value_or_255 (chunk a 32 text) i 0 0 (omega (arith, length-chunk a 32 text (omega arith)))
          ∙ ap value_or_255 (get_or-chunk a 32 text i 0 early)
      | inr late ↦
          let place : a + 32 + (i - 32) ≡ a + i = omega arith in
          get_or-append_right (map value_or_255 (chunk a 32 text)) _ 32 i 0 long late
          ∙ get_or-map value_or_255 (chunk (a + 32) 32 text) (i - 32) 0 0 (omega (arith, more))
          ∙ ap value_or_255 (get_or-chunk (a + 32) 32 text (i - 32) 0 (omega arith) ∙ ap (λ j. get_or text j 0) place)
    ]

-- the values of one vector
lane_at : (text : List ℕ) (a i : ℕ) → a + 32 ≤ length text → i < 32
    → get_or (map value_or_255 (chunk a 32 text)) i 0 ≡ value_or_255 (get_or text (a + i) 0)
lane_at text a i within below =
    get_or-map value_or_255 (chunk a 32 text) i 0 0 (omega (arith, length-chunk a 32 text within))
    ∙ ap value_or_255 (get_or-chunk a 32 text i 0 below)

are_digits : (text : List ℕ) (a : ℕ) → a + 32 ≤ length text → ((k : ℕ) → k < 32 → get_or (map value_or_255 (chunk a 32 text)) k 0 < 16)
    → DigitsBetween text a (a + 32)
are_digits text a within small j from to =
    let place : a + (j - a) ≡ j = omega arith in
    let here = lane_at text a (j - a) within (omega arith) ∙ ap (λ i. value_or_255 (get_or text i 0)) place in
    digit_from_small (hex_digit_value (get_or text j 0)) (rw here at (small (j - a) (omega arith)))

are_small : (text : List ℕ) (a : ℕ) → a + 32 ≤ length text → DigitsBetween text a (a + 32)
    → (k : ℕ) → k < 32 → get_or (map value_or_255 (chunk a 32 text)) k 0 < 16
are_small text a within digits k below =
    rw (lane_at text a k within below) (small_from_digit (get_or text (a + k) 0) (digits (a + k) (omega arith) (omega arith)))

-- whether two vectors hold digits
pub digits_told : (text : List ℕ) (a : ℕ) (p q : Bool) → a + 64 ≤ length text
    → IsTrue p ↔ ((k : ℕ) → k < 32 → get_or (map value_or_255 (chunk a 32 text)) k 0 < 16)
    → IsTrue q ↔ ((k : ℕ) → k < 32 → get_or (map value_or_255 (chunk (a + 32) 32 text)) k 0 < 16)
    → IsTrue (p && q) ↔ DigitsBetween text a (a + 64)
digits_told text a p q within first second = (
  λ both j from to.
      let parts = and_parts p q both in
      elim (cases_lt j (a + 32)) [
        | inl early ↦ are_digits text a (omega arith) (first.0 parts.0) j from early
        | inr late ↦ are_digits text (a + 32) (omega arith) (second.0 parts.1) j late (omega arith)
      ],
  λ digits.
      let p_true : p ≡ true = first.1 (are_small text a (omega arith) (λ j from to. digits j from (omega arith))) in
      let q_true : q ≡ true = second.1 (are_small text (a + 32) (omega arith) (λ j from to. digits j (omega arith) (omega arith))) in
      rw (p_true, q_true) refl,
)

-- the octets of two vectors are those of the text
pub octets_put : (text out first second octets : List ℕ) (at : ℕ)
    → first ≡ map value_or_255 (chunk (2 * at) 32 text) → second ≡ map value_or_255 (chunk (2 * at + 32) 32 text) → octets ≡ pairs_of (first ++ second)
    → 2 * at + 64 ≤ length text → at + 32 ≤ length out → (k : ℕ) → at ≤ k → k < at + 32
    → get_or (put_chunk at out octets) k 0 ≡ octet_at text k
octets_put text out first second octets at first_is second_is octets_are source room k from to =
    let values = first ++ second in
    let pair = λ (k : ℕ). joined (slice_index values (2 * k)) (slice_index values (2 * k + 1)) in
    let long : length octets ≡ 32 = ap length octets_are ∙ length-map-range_with_len pair 0 32 in
    let place : at + (k - at) ≡ k = omega arith in
    let high_place : 2 * at + 2 * (k - at) ≡ 2 * k = omega arith in
    let low_place : 2 * at + (2 * (k - at) + 1) ≡ 2 * k + 1 = omega arith in
    let same : values ≡ map value_or_255 (chunk (2 * at) 32 text) ++ map value_or_255 (chunk (2 * at + 32) 32 text) = ap₂ ◌++◌ first_is second_is in
    let high = ap (λ v. get_or v (2 * (k - at)) 0) same ∙ value_at text (2 * at) (2 * (k - at)) source (omega arith) ∙ ap (λ i. value_or_255 (get_or text i 0)) high_place in
    let low = ap (λ v. get_or v (2 * (k - at) + 1) 0) same ∙ value_at text (2 * at) (2 * (k - at) + 1) source (omega arith) ∙ ap (λ i. value_or_255 (get_or text i 0)) low_place in
    ap (λ i. get_or (put_chunk at out octets) i 0) (sym place)
    ∙ get_or-put_chunk_at at out octets (k - at) 0 (omega (arith, long)) (omega (arith, long))
    ∙ ap (λ o. get_or o (k - at) 0) octets_are
    ∙ get_or-map-range_with_len pair 0 32 (k - at) (k - at) 0 (omega arith) (omega arith)
    ∙ ap (λ high. joined high (slice_index values (2 * (k - at) + 1))) high
    ∙ ap (λ low. joined (value_or_255 (get_or text (2 * k) 0)) low) low

-- ---- a text of digits is decoded

value_of : (c : ℕ) → is_hex_digit c ≡ true → hex_digit_value c ≡ Some (value_or_255 c)
value_of c digit = from_some (hex_digit_value c) digit

pair_is : (a b i : ℕ) → is_hex_digit a ≡ true → is_hex_digit b ≡ true → pair_value a b i ≡ Ok (joined (value_or_255 a) (value_or_255 b))
pair_is a b i first second =
    let high = small_from_digit a first in
    let low = small_from_digit b second in
    let sum : value_or_255 a * 16 + value_or_255 b ≡ joined (value_or_255 a) (value_or_255 b) = omega arith in
    let pair : pair_value a b i ≡ Ok (value_or_255 a * 16 + value_or_255 b) = rw (value_of a first, value_of b second) refl in
    pair ∙ ap Ok sum

decoded_pairs : (i : ℕ) (text out : List ℕ) → length text ≡ 2 * length out
    → ((j : ℕ) → j < length text → is_hex_digit (get_or text j 0) ≡ true)
    → ((k : ℕ) → k < length out → get_or out k 0 ≡ octet_at text k)
    → decode_pairs i text ≡ Ok out
unfolding decode_pairs
decoded_pairs i [] [] len digits octets = refl
decoded_pairs i [] (o ∷ out) len digits octets = absurd (omega arith)
decoded_pairs i (a ∷ []) out len digits octets = absurd (omega arith)
decoded_pairs i (a ∷ b ∷ rest) [] len digits octets = absurd (omega arith)
decoded_pairs i (a ∷ b ∷ rest) (o ∷ out) len digits octets =
    let here : o ≡ joined (value_or_255 a) (value_or_255 b) = octets 0 (omega arith) in
    let pair = pair_is a b i (digits 0 (omega arith)) (digits 1 (omega arith)) in
    let more = decoded_pairs (i + 2) rest out (omega arith) (λ j within. digits (suc (suc j)) (omega arith)) (λ k within. octets (suc k) (omega arith) ∙ octet_next a b k rest) in
    decode_pairs-ok_pair i a b _ rest pair ∙ ap (cons_byte (joined (value_or_255 a) (value_or_255 b))) more
    ∙ ap (λ (x : ℕ). Ok (x ∷ out)) (sym here)

pub decoded : (text out : List ℕ) → length text ≡ 2 * length out → DigitsBetween text 0 (length text)
    → ((k : ℕ) → k < length out → get_or out k 0 ≡ octet_at text k) → decode_of text ≡ Ok out
decoded text out len digits octets =
    decode_of-even text (omega arith) ∙ decoded_pairs 0 text out len (λ j within. digits j (omega arith) within) octets

pub all_digits : (text : List ℕ) → DigitsBetween text 0 (length text) ↔ AllPass is_hex_digit text
all_digits text = (
  λ digits. All-from_get_or (λ c. is_hex_digit c ≡ true) text 0 (λ j within. digits j (omega arith) within),
  λ all j from within. All-get_or (λ c. is_hex_digit c ≡ true) text j 0 within all,
)

-- a last step ends with the text: octets before it stand as they did
pub decoded_by_steps : (text before after : List ℕ) (done : ℕ) → length text ≡ 2 * length after → length before ≡ length after
    → 32 ≤ length after → length after - 32 ≤ done
    → DigitsBetween text 0 (2 * done) → ((k : ℕ) → k < done → get_or before k 0 ≡ octet_at text k)
    → DigitsBetween text (2 * (length after - 32)) (2 * (length after - 32) + 64)
    → ((k : ℕ) → length after - 32 ≤ k → k < length after - 32 + 32 → get_or after k 0 ≡ octet_at text k)
    → ((k : ℕ) → k < length after - 32 → get_or after k 0 ≡ get_or before k 0)
    → decode_of text ≡ Ok after
decoded_by_steps text before after done len same enough overlaps digits octets last_digits last_octets stay =
    let all_digits : DigitsBetween text 0 (length text) = λ j from within. elim (cases_lt j (2 * done)) [ inl early ↦ digits j from early | inr late ↦ last_digits j (omega arith) (omega arith) ] in
    decoded text after len all_digits
    (λ k within. elim (cases_lt k (length after - 32)) [ inl early ↦ stay k early ∙ octets k (omega arith) | inr late ↦ last_octets k late (omega arith) ])
