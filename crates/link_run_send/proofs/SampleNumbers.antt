-- Numbers of 32 bits.
use Rattle.std.proofs.Common.{◌≡◌, ◌-◌, ◌^◌, ℤ, pos, negsuc, Bool, true, false, w32, FitsSigned, Option, Some, None, refl, sym, ap, ap₂, ◌∙◌, arith, inl, inr, List, ℕ}
use Rattle.std.specs.Prelude.{IfSome, IfNone, if◌then◌else◌}
use Rattle.std.proofs.lemmas.Bool.{true≢false, and_from, and_left, cases_lt, le-leb, le-ltb, lt-leb, lt-ltb}
use Rattle.link_text.specs.Decimals.{signed_value}
use Rattle.link_text.specs.Fields.{at_first_space}
use Rattle.link_text.specs.Pair.{IsPair}
use Rattle.link_run_send.specs.SampleLine.{fits_bits, of_32_bits, sample_by, sample_in, sample_of}

fits_bits-fits : (z : ℤ) → FitsSigned w32 z → fits_bits 32 z ≡ true
fits_bits-fits (pos n) fits = lt-ltb n (2 ^ 31) fits.sfits
fits_bits-fits (negsuc n) fits = and_from _ true (le-leb n (2 ^ 31 - 1) (omega (arith, fits.sfits))) refl

fits_bits-not : (z : ℤ) → ¬ FitsSigned w32 z → fits_bits 32 z ≡ false
fits_bits-not (pos n) not = elim (cases_lt n (2 ^ 31)) [
  | inl small ↦ absurd (not (record { sfits = small }))
  | inr large ↦ le-ltb n (2 ^ 31) large
]
fits_bits-not (negsuc n) not = elim (cases_lt n (2 ^ 31)) [
  | inl small ↦ absurd (not (record { sfits = small }))
  | inr large ↦ and_left _ true (lt-leb n (2 ^ 31 - 1) (omega (arith, large)))
]

pub number_of : (r v : Option ℤ) → IfSome r (FitsSigned w32) → IfSome r (λ z. v ≡ Some z) → IfNone r (IfSome v (λ z. ¬ FitsSigned w32 z)) → r ≡ of_32_bits v
number_of (Some z) v fits some none = sym (ap of_32_bits some ∙ ap (λ b. if b then Some z else None) (fits_bits-fits z fits))
number_of None (Some z) fits some none = sym (ap (λ b. if b then Some z else None) (fits_bits-not z none))
number_of None None fits some none = refl

-- the sample of two short numbers
pub sample_is : (line : List ℕ) (i q : ℤ) → FitsSigned w32 i → FitsSigned w32 q → IsPair line i q → Some (record { i = i; q = q }) ≡ sample_of line
unfolding sample_of
sample_is line i q i_fits q_fits pair =
    let first = number_of (Some i) (signed_value pair.first) i_fits pair.first_value tt in
    let second = number_of (Some q) (signed_value pair.second) q_fits pair.second_value tt in
    sym (ap sample_in pair.fields ∙ ap₂ sample_by (sym first) (sym second))

bits_fit : (z : ℤ) → fits_bits 32 z ≡ true → FitsSigned w32 z
bits_fit (pos n) is = elim (cases_lt n (2 ^ 31)) [
  | inl small ↦ record { sfits = small }
  | inr large ↦ absurd (true≢false (sym is ∙ le-ltb n (2 ^ 31) large))
]
bits_fit (negsuc n) is = elim (cases_lt n (2 ^ 31)) [
  | inl small ↦ record { sfits = small }
  | inr large ↦ absurd (true≢false (sym is ∙ fits_bits-not (negsuc n) (λ fits. omega (arith, fits.sfits, large))))
]

-- and none of a line without two numbers of 32 bits
pub no_sample_is : (line : List ℕ) → ((i q : ℤ) → IsPair line i q → ¬ (FitsSigned w32 i × FitsSigned w32 q)) → None ≡ sample_of line
unfolding sample_of
no_sample_is line none = by (at_first_space line) refl
  where
    outside : (i q : ℤ) (i_is q_is : Bool) → fits_bits 32 i ≡ i_is → fits_bits 32 q ≡ q_is → ¬ (FitsSigned w32 i × FitsSigned w32 q)
        → None ≡ sample_by (if i_is then Some i else None) (if q_is then Some q else None)
    outside i q true true i_fits q_fits not = absurd (not (bits_fit i i_fits, bits_fit q q_fits))
    outside i q true false i_fits q_fits not = refl
    outside i q false q_is i_fits q_fits not = refl

    lone : (i : ℤ) (i_is : Bool) → None ≡ sample_by (if i_is then Some i else None) None
    lone i true = refl
    lone i false = refl

    numbers : (first second : List ℕ) → at_first_space line ≡ Some (first, second) → (i q : Option ℤ) → signed_value first ≡ i → signed_value second ≡ q
        → None ≡ sample_by (of_32_bits i) (of_32_bits q)
    numbers first second fields None q i_is q_is = refl
    numbers first second fields (Some i) None i_is q_is = lone i (fits_bits 32 i)
    numbers first second fields (Some i) (Some q) i_is q_is =
        outside i q (fits_bits 32 i) (fits_bits 32 q) refl refl
        (none i q (record { first = first; second = second; fields = fields; first_value = i_is; second_value = q_is }))

    by : (fields : Option (List ℕ × List ℕ)) → at_first_space line ≡ fields → None ≡ sample_in fields
    by None is = refl
    by (Some fields) is = numbers fields.0 fields.1 is (signed_value fields.0) (signed_value fields.1) refl refl
