-- Canonical decimals by their parts, and by what std writes of a number.
use Rattle.std.proofs.Common.{◌≡◌, ◌≢◌, ℕ, Bool, ◌&&◌, Option, if◌then◌else◌, inl, inr, ◌+◌, ◌-◌, ◌*◌, add-one, ◌^◌, ◌<◌, List, [], ◌∷◌, length, take, get_or, refl, sym, ◌∙◌, ap, arith, Some, None, IfSome, true, false, ℤ, pos, negsuc, suc, zero}
use Rattle.std.specs.Prelude.{decimal, slice_index}
use lib.Signed.{mag}
use Rattle.std.specs.Fmt.{signed_decimal}
use Rattle.std.specs.Option.{option_map}
use Rattle.std.specs.Str.{all_ascii_digits}
use Rattle.std.specs.Char.{is_ascii_digit, digit_value}
use Rattle.std.specs.Str.Parse.{digits_value}
use Rattle.std.proofs.lemmas.Bool.{cases_eq, and_parts, true≢false}
use Rattle.std.proofs.lemmas.Grind.{common_steps}
use Rattle.std.proofs.lemmas.Str.Parse.{IsNumeralModel, numerals_by_value, tells_all_ascii_digits, digits_value-take-le}
use Rattle.std.proofs.lemmas.Int.Digits.{digits_value_more}
use Rattle.std.proofs.lemmas.Fmt.{digits_decimal, digits_value-decimal, decimal-digits_value, decimal_nonempty, first_decimal, decimal_digit}
use Rattle.link_text.specs.Decimals.{is_canonical, decimal_value, negated, signed_value}

pub own : IsNumeralModel (λ ds. all_ascii_digits ds ≡ true) (digits_value 10)
own = numerals_by_value (λ ds. all_ascii_digits ds ≡ true) tells_all_ascii_digits

-- a canonical decimal by its parts
pub record IsCanonical (text : List ℕ) : Type 0 where
  pub digits : all_ascii_digits text ≡ true
  pub some : 0 < length text
  pub first : slice_index text 0 ≡ 48 → length text ≡ 1

pub canonical_parts : (text : List ℕ) → is_canonical text ≡ true → IsCanonical text
canonical_parts text h = record { digits = grind (arith, common_steps); some = grind (arith, common_steps); first = grind (arith, common_steps) }

pub canonical_from : (text : List ℕ) → IsCanonical text → is_canonical text ≡ true
canonical_from text h = grind (arith, common_steps)

pub decimal_value_of : (text : List ℕ) → IsCanonical text → decimal_value text ≡ Some (digits_value 10 text)
decimal_value_of text h = grind (arith, common_steps, canonical_from)

some_if : (b : Bool) (x v : ℕ) → ◌≡◌ {A = Option ℕ} (if b then Some x else None) (Some v) → (b ≡ true) × (x ≡ v)
some_if true x v h = (refl, cc)
some_if false x v h = cc

pub decimal_value_parts : (text : List ℕ) (v : ℕ) → decimal_value text ≡ Some v → IsCanonical text × (digits_value 10 text ≡ v)
decimal_value_parts text v h =
    let parts = some_if (is_canonical text) (digits_value 10 text) v h in (canonical_parts text parts.0, parts.1)

-- the text of a number is its one canonical decimal
IsCanonical-decimal : (n : ℕ) → n < 2 ^ 64 → IsCanonical (decimal n)
IsCanonical-decimal n h = record {
  digits = digits_decimal own n h;
  some = decimal_nonempty n h;
  first = elim (cases_eq n 0) as (λ _. slice_index (decimal n) 0 ≡ 48 → length (decimal n) ≡ 1) [
    | inl e ↦ λ _. rw e (ap length (decimal_digit 0 (omega arith)))
    | inr e ↦ λ is. absurd (omega (arith, first_decimal n (omega arith) h))
  ];
}

pub decimal_value-decimal : (n : ℕ) → n < 2 ^ 64 → decimal_value (decimal n) ≡ Some n
decimal_value-decimal n h = decimal_value_of (decimal n) (IsCanonical-decimal n h) ∙ ap Some (digits_value-decimal own n h)

pub decimal-decimal_value : (text : List ℕ) (n : ℕ) → n < 2 ^ 64 → decimal_value text ≡ Some n → text ≡ decimal n
decimal-decimal_value text n h e =
    let parts = decimal_value_parts text n e in
    let same : decimal (digits_value 10 text) ≡ text = decimal-digits_value own text parts.0.digits parts.0.some parts.0.first (omega (arith, parts.1)) in
    sym same ∙ ap decimal parts.1

-- each octet of a text of digits is one
pub digit_of_digits : (text : List ℕ) (i : ℕ) → all_ascii_digits text ≡ true → i < length text → is_ascii_digit (slice_index text i) ≡ true
digit_of_digits [] i digits within = absurd (omega arith)
digit_of_digits (c ∷ cs) zero digits within = (and_parts _ _ digits).0
digit_of_digits (c ∷ cs) (suc i) digits within = digit_of_digits cs i (and_parts _ _ digits).1 (omega arith)

-- where an octet is no digit, or the digits of a front make too large a number already
none_if : (b : Bool) (x : ℕ) → (b ≡ true → ⊥) → ◌≡◌ {A = Option ℕ} (if b then Some x else None) None
none_if true x never = absurd (never refl)
none_if false x never = refl

IfSome-if : (b : Bool) (x most : ℕ) → most < x → IfSome (if b then Some x else None) (λ v. most < v)
IfSome-if true x most large = large
IfSome-if false x most large = tt

pub decimal_value-other : (text : List ℕ) (i : ℕ) → i < length text → is_ascii_digit (slice_index text i) ≡ false → decimal_value text ≡ None
decimal_value-other text i within other =
    none_if (is_canonical text) (digits_value 10 text)
    (λ h. true≢false (sym (digit_of_digits text i (canonical_parts text h).digits within) ∙ other))

pub decimal_value-large : (text : List ℕ) (i most : ℕ) → most < digits_value 10 (take i text) → IfSome (decimal_value text) (λ v. most < v)
decimal_value-large text i most large =
    IfSome-if (is_canonical text) (digits_value 10 text) most
    (omega (arith, digits_value-take-le 10 text i (omega arith)))

and_true : (x y : Bool) → x ≡ true → y ≡ true → (x && y) ≡ true
and_true x y p q = grind (arith, common_steps)

-- one more digit
digit_value_of : (c : ℕ) → is_ascii_digit c ≡ true → digit_value c ≡ c - 48
digit_value_of c h = grind (arith, common_steps)

digits_suc : (text : List ℕ) (i : ℕ) → all_ascii_digits (take i text) ≡ true → i < length text → is_ascii_digit (get_or text i 0) ≡ true
    → all_ascii_digits (take (suc i) text) ≡ true
digits_suc [] i front within digit = absurd (omega arith)
digits_suc (c ∷ cs) zero front within digit = and_true (is_ascii_digit c) true digit refl
digits_suc (c ∷ cs) (suc i) front within digit =
    let parts = and_parts (is_ascii_digit c) (all_ascii_digits (take i cs)) front in
    let more = digits_suc cs i parts.1 (omega arith) digit in
    and_true (is_ascii_digit c) (all_ascii_digits (take (suc i) cs)) parts.0 more

pub digits_more : (text : List ℕ) (i : ℕ) → all_ascii_digits (take i text) ≡ true → i < length text → is_ascii_digit (get_or text i 0) ≡ true
    → all_ascii_digits (take (i + 1) text) ≡ true
digits_more text i front within digit = rw add-one (digits_suc text i front within digit)

pub value_more : (text : List ℕ) (i v : ℕ) → i < length text → is_ascii_digit (get_or text i 0) ≡ true → v ≡ digits_value 10 (take i text)
    → v * 10 + (get_or text i 0 - 48) ≡ digits_value 10 (take (i + 1) text)
value_more text i v within digit value =
    omega (arith, digits_value_more 10 text i within, digit_value_of (get_or text i 0) digit, value)

-- a canonical decimal begins with no minus sign
pub signed_value-plain : (text : List ℕ) → IsCanonical text → signed_value text ≡ option_map pos (decimal_value text)
signed_value-plain [] h = absurd (omega (arith, h.some))
signed_value-plain (c ∷ cs) h =
    let digit = (and_parts (is_ascii_digit c) (all_ascii_digits cs) h.digits).0 in
    grind (arith, common_steps)

pub signed_value-signed_decimal : (v : ℤ) → mag v < 2 ^ 63 → signed_value (signed_decimal v) ≡ Some v
signed_value-signed_decimal (pos n) h =
    signed_value-plain (decimal n) (IsCanonical-decimal n (omega arith)) ∙ ap (option_map pos) (decimal_value-decimal n (omega arith))
signed_value-signed_decimal (negsuc n) h = ap negated (decimal_value-decimal (suc n) (omega arith))

negated_some : (o : Option ℕ) (v : ℤ) → negated o ≡ Some v → (n : ℕ) × (o ≡ Some (suc n)) × (v ≡ negsuc n)
negated_some None v h = cc
negated_some (Some zero) v h = cc
negated_some (Some (suc n)) v h = (n, refl, cc)

pos_some : (o : Option ℕ) (v : ℤ) → option_map pos o ≡ Some v → (n : ℕ) × (o ≡ Some n) × (v ≡ pos n)
pos_some None v h = cc
pos_some (Some n) v h = (n, refl, cc)

signed_value-other : (c : ℕ) (cs : List ℕ) → c ≢ 45 → signed_value (c ∷ cs) ≡ option_map pos (decimal_value (c ∷ cs))
signed_value-other c cs other = grind (arith, common_steps)

minus_of : (c : ℕ) (cs : List ℕ) (v : ℤ) → c ≡ 45 → signed_value (c ∷ cs) ≡ Some v → negated (decimal_value cs) ≡ Some v
minus_of c cs v is e = sym (ap (λ d. signed_value (d ∷ cs)) is) ∙ e

read_minus : (c : ℕ) (cs : List ℕ) (v : ℤ) → mag v < 2 ^ 63 → c ≡ 45 → negated (decimal_value cs) ≡ Some v → (c ∷ cs) ≡ signed_decimal v
read_minus c cs v h is e =
    let parts = negated_some (decimal_value cs) v e in
    let small : mag (negsuc parts.0) < 2 ^ 63 = rw parts.2 at h in
    rw (parts.2, is) (ap (λ text. 45 ∷ text) (decimal-decimal_value cs (suc parts.0) (omega arith) parts.1))

read_plain : (text : List ℕ) (v : ℤ) → mag v < 2 ^ 63 → option_map pos (decimal_value text) ≡ Some v → text ≡ signed_decimal v
read_plain text v h e =
    let parts = pos_some (decimal_value text) v e in
    let small : mag (pos parts.0) < 2 ^ 63 = rw parts.2 at h in
    rw parts.2 (decimal-decimal_value text parts.0 (omega arith) parts.1)

pub signed_decimal-signed_value : (text : List ℕ) (v : ℤ) → mag v < 2 ^ 63 → signed_value text ≡ Some v → text ≡ signed_decimal v
signed_decimal-signed_value [] v h e = cc
signed_decimal-signed_value (c ∷ cs) v h e =
    elim (cases_eq c 45) as (λ _. (c ∷ cs) ≡ signed_decimal v) [
      | inl is ↦ read_minus c cs v h is (minus_of c cs v is e)
      | inr other ↦ read_plain (c ∷ cs) v h (sym (signed_value-other c cs other) ∙ e)
    ]
