-- Numbers in words of eight octets.
use Rattle.std.proofs.Common.{◌≡◌, ◌≢◌, ℕ, zero, suc, ◌+◌, ◌*◌, ◌/◌, ◌%◌, ◌^◌, ◌<◌, ◌≤◌, Bool, true, false, cond, eqb, List, [], ◌∷◌, ◌++◌, length, take, drop, get_or, Option, Some, None, if◌then◌else◌, refl, sym, ap, ◌∙◌, arith, ℤ, pos}
use mir.Val.{bool_byte}
use Rattle.std.specs.Prelude.{slice_index, neg_ℤ, replicate}
use Rattle.std.specs.Char.{is_ascii_digit, digit_value}
use Rattle.std.specs.Float.Numeral.{digits_len}
use Rattle.std.specs.Int.Digits.{AllBelowBase}
use Rattle.std.specs.List.{position, position_or_len}
use Rattle.std.specs.Option.{option_map}
use Rattle.std.specs.Simd.Lanes.{digits_l, number_l}
use Rattle.std.specs.Str.{all_ascii_digits}
use Rattle.std.specs.Str.Parse.{digits_value, digits_value_after}
use Rattle.std.proofs.lemmas.Str.Parse.{digits_value_short}
use native.Mathlib.Nat.{pow-le-pow_right, pow-succ'}
use Rattle.std.proofs.lemmas.Bool.{eqb-true, eqb-false, eq-eqb, ne_eqb, and_parts}
use Rattle.std.proofs.lemmas.Grind.{common_steps}
use Rattle.std.proofs.lemmas.List.{length-append, length-drop, length-replicate, length-take-le, get_or-drop, get_or-take}
use Rattle.std.proofs.lemmas.List.Sums.{position_or_len_is}
use Rattle.core.specs.Dec2flt.Digits.{IsEightBytes}
use Rattle.core.specs.Slice.Scan.{little_endian}
use Rattle.core.proofs.dec2flt.Eight.{bytes-drop, bytes_down, eight_at, word_at, zeros_after}
use Rattle.core.proofs.dec2flt.Rows.{AllDigits-digits_len}
use Rattle.core.proofs.dec2flt.DigitsLemmas.{digit_range, is_digit}
use Rattle.link_text.specs.Decimals.{decimal_value, negated, signed_value}
use Rattle.link_text.specs.Fields.{is_space, cut_at}
use Rattle.link_text.specs.Pair.{IsPair}
use Rattle.link_text.proofs.DecimalLemmas.{IsCanonical, own, decimal_value_of, decimal_value_parts, digit_of_digits, signed_value-plain}

-- each word is made of eight octets
octets_of : (n word : ℕ) → word < 256 ^ n → (length (digits_l 256 n word) ≡ n) × AllBelowBase 256 (digits_l 256 n word) × (word ≡ number_l 256 (digits_l 256 n word))
octets_of zero word small = (refl, tt, omega (arith, small))
octets_of (suc n) word small =
    let power : 256 ^ suc n ≡ 256 * 256 ^ n = pow-succ' 256 n in
    let rest = octets_of n (word / 256) (omega (arith, small, power)) in
    (omega (arith, rest.0), (omega arith, rest.1), omega (arith, rest.2))

-- the digits at the front of some octets
ascii_front : (octets : List ℕ) (end : ℕ) → end ≤ digits_len octets → all_ascii_digits (take end octets) ≡ true
ascii_front octets end within = own.from (take end octets) (AllDigits-digits_len octets end within)

pub few_digits : (octets : List ℕ) (end : ℕ) → end ≤ digits_len octets → end ≤ 8 → digits_value 10 (take end octets) < 10 ^ end
few_digits octets end within few = digits_value_short own (take end octets) end (ascii_front octets end within) (omega (arith, length-take-most end octets))
  where
    length-take-most : (n : ℕ) (xs : List ℕ) → length (take n xs) ≤ n
    length-take-most zero xs = omega arith
    length-take-most (suc n) [] = omega arith
    length-take-most (suc n) (x ∷ xs) = omega (arith, length-take-most n xs)

-- fewer than eight digits at the front of a word are a number below 10 ^ 7
pub few_are_small : (word end size : ℕ) → word < 2 ^ 64 → end < 8
    → ((octets : List ℕ) → IsEightBytes octets → word ≡ number_l 256 octets → (end ≡ digits_len octets) × (size ≡ digits_value 10 (take end octets))) → size < 10 ^ 7
few_are_small word end size fits few read =
    let eight = octets_of 8 word fits in
    let octets = digits_l 256 8 word in
    let r = read octets (eight.0, eight.1) eight.2 in
    let most : end ≤ 7 = omega arith in
    let seven : 10 ^ end ≤ 10 ^ 7 = pow-le-pow_right {n = 10} (omega arith) most in
    let small : digits_value 10 (take end octets) < 10 ^ end = few_digits octets end (omega (arith, r.0)) (omega arith) in
    omega (arith, r.1, small, seven)

-- ---- the number that stands at the front of some octets

after_least : (n : ℕ) (ds : List ℕ) → n ≤ digits_value_after 10 n ds
after_least n [] = omega arith
after_least n (c ∷ cs) = omega (arith, after_least (n * 10 + digit_value c) cs)

-- digits that begin with another one than 0 are a number above 0
not_zero : (c : ℕ) (cs : List ℕ) → is_ascii_digit c ≡ true → c ≢ 48 → digits_value 10 (c ∷ cs) ≢ 0
not_zero c cs digit other none =
    let least : 0 * 10 + digit_value c ≤ digits_value 10 (c ∷ cs) = after_least (0 * 10 + digit_value c) cs in
    let range = digit_range c digit in
    other (omega (arith, least, none, (is_digit c range.0 range.1).1, range.0, range.1))

negated_pos : (n : ℕ) → n ≢ 0 → negated (Some n) ≡ Some (neg_ℤ (pos n))
negated_pos zero some = absurd (some refl)
negated_pos (suc n) some = refl

-- a number that is not below 0
plain : (octets : List ℕ) (end : ℕ) → end ≤ digits_len octets → end ≤ length octets → 0 < end → (slice_index octets 0 ≡ 48 → end ≡ 1)
    → signed_value (take end octets) ≡ Some (pos (digits_value 10 (take end octets)))
plain octets end within inside some first =
    let text = take end octets in
    let long = length-take-le end octets inside in
    let canonical : IsCanonical text = record {
      digits = ascii_front octets end within;
      some = omega (arith, long);
      first = λ zero. long ∙ first (sym (get_or-take end octets 0 0 some) ∙ zero);
    } in
    signed_value-plain text canonical ∙ ap (option_map pos) (decimal_value_of text canonical)

-- one that is, whose sign was read as a zero
negative : (rest : List ℕ) (end : ℕ) → end ≤ digits_len (48 ∷ rest) → end ≤ suc (length rest) → 1 < end → slice_index rest 0 ≢ 48
    → signed_value (take end (45 ∷ rest)) ≡ Some (neg_ℤ (pos (digits_value 10 (take end (48 ∷ rest)))))
negative rest zero within inside some first = absurd (omega arith)
negative rest (suc zero) within inside some first = absurd (omega arith)
negative [] (suc (suc n)) within inside some first = absurd (omega arith)
negative (c ∷ cs) (suc (suc n)) within inside some first =
    let text = c ∷ take n cs in
    let all = ascii_front (48 ∷ c ∷ cs) (suc (suc n)) within in
    let digits : all_ascii_digits text ≡ true = (and_parts (is_ascii_digit 48) (all_ascii_digits text) all).1 in
    let digit = (and_parts (is_ascii_digit c) (all_ascii_digits (take n cs)) digits).0 in
    let canonical : IsCanonical text = record { digits = digits; some = omega arith; first = λ zero. absurd (first zero) } in
    ap negated (decimal_value_of text canonical) ∙ negated_pos (digits_value 10 text) (not_zero c (take n cs) digit first)

-- The number at the front of a word, by its sign and what is read of the word with a zero for the sign.
module _ (octets : List ℕ) (word : ℕ) (eight : IsEightBytes octets) (is : word ≡ number_l 256 octets) (end size : ℕ) (few : end < 8) where
  pub plain_is : word % 256 ≢ 45 → (end ≡ digits_len octets) × (size ≡ digits_value 10 (take end octets)) → 0 < end → (word % 256 ≡ 48 → end ≤ 1)
      → signed_value (take end octets) ≡ Some (pos size)
  plain_is other read some first = go octets eight is read
    where
      go : (os : List ℕ) → IsEightBytes os → word ≡ number_l 256 os → (end ≡ digits_len os) × (size ≡ digits_value 10 (take end os)) → signed_value (take end os) ≡ Some (pos size)
      go [] e w r = absurd (omega (arith, e.0))
      go (c ∷ cs) e w r =
          let low : word % 256 ≡ c = omega (arith, w, e.1.0) in
          plain (c ∷ cs) end (omega (arith, r.0)) (omega (arith, e.0)) some (λ zero. omega (arith, first (low ∙ zero))) ∙ ap (λ n. Some (pos n)) (sym r.1)

  pub negative_is : word % 256 ≡ 45 → ((os : List ℕ) → IsEightBytes os → word + 3 ≡ number_l 256 os → (end ≡ digits_len os) × (size ≡ digits_value 10 (take end os)))
      → 1 < end → word / 256 % 256 ≢ 48 → signed_value (take end octets) ≡ Some (neg_ℤ (pos size))
  negative_is minus read some first = go octets eight is
    where
      go : (os : List ℕ) → IsEightBytes os → word ≡ number_l 256 os → signed_value (take end os) ≡ Some (neg_ℤ (pos size))
      go [] e w = absurd (omega (arith, e.0))
      go (c ∷ []) e w = absurd (omega (arith, e.0))
      go (c ∷ d ∷ cs) e w =
          let low : c ≡ 45 = omega (arith, w, e.1.0, minus) in
          let next : word / 256 % 256 ≡ d = omega (arith, w, e.1.0, e.1.1.0) in
          let zeroed : IsEightBytes (48 ∷ d ∷ cs) = (e.0, (omega arith, e.1.1)) in
          let r = read (48 ∷ d ∷ cs) zeroed (omega (arith, w, low)) in
          ap (λ x. signed_value (take end (x ∷ d ∷ cs))) low
          ∙ negative (d ∷ cs) end (omega (arith, r.0)) (omega (arith, e.0)) some (λ zero. first (next ∙ zero))
          ∙ ap (λ n. Some (neg_ℤ (pos n))) (sym r.1)

  pub number_is : (minus : Bool) (digits : ℕ) (z : ℤ) → word < 2 ^ 64 → eqb (word % 256) 45 ≡ minus → digits ≡ (word + 3 * bool_byte minus) % 2 ^ 64
      → ((os : List ℕ) → IsEightBytes os → digits ≡ number_l 256 os → (end ≡ digits_len os) × (size ≡ digits_value 10 (take end os)))
      → bool_byte minus < end → (word / 2 ^ (8 * bool_byte minus) % 256 ≡ 48 → bool_byte minus + end ≤ 1)
      → z ≡ cond minus (neg_ℤ (pos size)) (pos size) → signed_value (take end octets) ≡ Some z
  number_is true digits z fits sign reads read some first value =
      let there : word % 256 ≡ 45 = eqb-true (word % 256) 45 sign in
      let sum : word + 3 < 2 ^ 64 = omega (arith, there, fits) in
      let same : digits ≡ word + 3 = omega (arith, reads, sum) in
      negative_is there (λ os e w. read os e (same ∙ w)) (omega arith) (λ zero_. omega (arith, first zero_)) ∙ ap Some (sym value)
  number_is false digits z fits sign reads read some first value =
      let same : digits ≡ word = omega (arith, reads, fits) in
      let whole : word / 1 % 256 ≡ word % 256 = omega arith in
      plain_is (eqb-false (word % 256) 45 sign) (read octets eight (same ∙ is)) (omega arith) (λ zero_. omega (arith, first (whole ∙ zero_))) ∙ ap Some (sym value)

-- ---- two numbers of a line

is_no_space : (c : ℕ) → is_ascii_digit c ≡ true → c ≢ 32
is_no_space c digit = grind (arith, common_steps)

digits_no_space : (text : List ℕ) (n : ℕ) → decimal_value text ≡ Some n → (k : ℕ) → k < length text → slice_index text k ≢ 32
digits_no_space text n is k within = is_no_space (slice_index text k) (digit_of_digits text k (decimal_value_parts text n is).0.digits within)

-- no octet of a number is a space
no_space : (text : List ℕ) (z : ℤ) → signed_value text ≡ Some z → (k : ℕ) → k < length text → slice_index text k ≢ 32
no_space [] z is k within = absurd (omega arith)
no_space (c ∷ cs) z is k within = by (eqb c 45) refl (decimal_value cs) refl (decimal_value (c ∷ cs)) refl is k within
  where
    by : (minus : Bool) → eqb c 45 ≡ minus → (below : Option ℕ) → decimal_value cs ≡ below → (above : Option ℕ) → decimal_value (c ∷ cs) ≡ above
        → (if minus then negated below else option_map pos above) ≡ Some z → (k : ℕ) → k < suc (length cs) → slice_index (c ∷ cs) k ≢ 32
    by true sign (Some n) rest above all is zero within = λ space. omega (arith, space, eqb-true c 45 sign)
    by true sign (Some n) rest above all is (suc k) within = digits_no_space cs n rest k (omega arith)
    by true sign None rest above all is k within = absurd cc
    by false sign below rest (Some n) all is k within = digits_no_space (c ∷ cs) n all k within
    by false sign below rest None all is k within = absurd cc

position_is : (line : List ℕ) (place : ℕ) → place < length line → position_or_len is_space line ≡ place → position is_space line ≡ Some place
position_is line place within is = rw is (grind (arith, common_steps))

pub pair_is : (line : List ℕ) (i q : ℤ) (end : ℕ) → end < length line → signed_value (take end line) ≡ Some i → slice_index line end ≡ 32
    → signed_value (drop (end + 1) line) ≡ Some q → IsPair line i q
pair_is line i q end early first space second =
    let long = length-take-le end line (omega arith) in
    let other = λ (k : ℕ) (before : k < end). ne_eqb (get_or line k 0) 32 (λ is. no_space (take end line) i first k (omega (arith, long)) (get_or-take end line k 0 before ∙ is)) in
    let here : is_space (get_or line end 0) ≡ true = eq-eqb (get_or line end 0) 32 space in
    let place = position_is line end early (position_or_len_is is_space line end 0 (omega arith) other (λ _. here)) in
    record { first = take end line; second = drop (end + 1) line; fields = ap (cut_at line) place; first_value = first; second_value = second }

-- a word that is shifted down until its first octets are those from a place on
pub later : (octets : List ℕ) (word k : ℕ) → IsEightBytes octets → word ≡ number_l 256 octets → k < 8
    → IsEightBytes (drop k octets ++ replicate k 0) × (word / 2 ^ (8 * k) ≡ number_l 256 (drop k octets ++ replicate k 0))
later octets word k eight is few =
    let more = zeros_after (drop k octets) k (bytes-drop k octets eight.1) in
    let long : length (drop k octets ++ replicate k 0) ≡ 8 = omega (arith, eight.0, length-append (drop k octets) (replicate k 0), length-drop k octets, length-replicate {A = ℕ} k 0) in
    ((long, more.0), ap (λ w. w / 2 ^ (8 * k)) is ∙ bytes_down octets k eight.1 few ∙ more.1)

-- the eight octets of a line from a place on
pub eight_of : (line : List ℕ) (from word : ℕ) → ((i : ℕ) → slice_index line i < 256) → from + 8 ≤ length line → word ≡ little_endian line from
    → IsEightBytes (take 8 (drop from line)) × (word ≡ number_l 256 (take 8 (drop from line)))
eight_of line from word fits within is = (eight_at line from fits within, is ∙ word_at line from within)

pub octets_before : (front back : List ℕ) → ((i : ℕ) → slice_index front i < 256) → ((i : ℕ) → slice_index back i < 256) → (i : ℕ) → slice_index (front ++ back) i < 256
octets_before [] back here there i = there i
octets_before (c ∷ cs) back here there zero = here 0
octets_before (c ∷ cs) back here there (suc i) = octets_before cs back (λ k. here (suc k)) there i

zero_at : (n i : ℕ) → slice_index (replicate n 0) i ≡ 0
zero_at zero i = refl
zero_at (suc n) zero = refl
zero_at (suc n) (suc i) = zero_at n i

pub zeros_left : (k i : ℕ) → slice_index (drop k (replicate 8 0)) i < 256
zeros_left k i = omega (arith, get_or-drop {A = ℕ} k (replicate 8 0) i 0, zero_at 8 (k + i))

pub take_front : (line rest : List ℕ) → take (length line) (line ++ rest) ≡ line
take_front [] rest = refl
take_front (x ∷ xs) rest = ap (λ more. x ∷ more) (take_front xs rest)
