-- What was collected before a flag.
use Rattle.std.proofs.Common.{◌≡◌, ℕ, zero, suc, ◌-◌, ◌≤◌, ◌&&◌, if◌then◌else◌, nat_lt, Bool, true, false, List, [], ◌∷◌, ◌++◌, length, take, replicate, get_or, Some, refl, sym, ap, ◌∙◌, subst, arith, inl, inr, append_assoc}
use Rattle.std.specs.Bool.{beq}
use Rattle.std.proofs.lemmas.Bool.{cond-true, cond-false, le-ltb, lt-ltb, ltb-false, cases_Bool, and_parts}
use Rattle.std.proofs.lemmas.List.{get_or_at, length-append, take_at, append-nil}
use Rattle.hdlc_channel.specs.SlowText.{bit, ends_with, flag, stuffing, after_flag, unstuffed}
use Rattle.hdlc_channel.specs.Reader.{before_flag, without_zero}
use Rattle.hdlc_channel.proofs.Places.{ones_back}
use Rattle.hdlc_channel.proofs.Steps.{after_flag-le, unstuffed-from_here}

without_zero-true : (xs : List Bool) → without_zero (xs ++ true ∷ []) ≡ xs ++ true ∷ []
unfolding without_zero
without_zero-true xs =
    let place : length (xs ++ true ∷ []) - 1 ≡ length xs = omega (arith, length-append xs (true ∷ [])) in
    let last : get_or (xs ++ true ∷ []) (length (xs ++ true ∷ []) - 1) true ≡ true = ap (λ i. get_or (xs ++ true ∷ []) i true) place ∙ get_or_at xs true [] true (length xs) refl in
    cond-true (get_or (xs ++ true ∷ []) (length (xs ++ true ∷ []) - 1) true) _ _ last

pub without_zero-false : (xs : List Bool) → without_zero (xs ++ false ∷ []) ≡ xs
unfolding without_zero
without_zero-false xs =
    let place : length (xs ++ false ∷ []) - 1 ≡ length xs = omega (arith, length-append xs (false ∷ [])) in
    let last : get_or (xs ++ false ∷ []) (length (xs ++ false ∷ []) - 1) true ≡ false = ap (λ i. get_or (xs ++ false ∷ []) i true) place ∙ get_or_at xs false [] true (length xs) refl in
    cond-false (get_or (xs ++ false ∷ []) (length (xs ++ false ∷ []) - 1) true) _ _ last
    ∙ ap (λ i. take i (xs ++ false ∷ [])) place ∙ take_at xs (false ∷ []) (length xs) refl

without_zero-nil : without_zero [] ≡ []
unfolding without_zero
without_zero-nil = refl

unstuffed-suc : (bits : List Bool) (from m : ℕ) → from ≤ m → unstuffed bits from (suc m) ≡ (if ends_with stuffing bits (suc m) then unstuffed bits from m else unstuffed bits from m ++ bit bits m ∷ [])
unfolding unstuffed
unstuffed-suc bits from m h = cond-false (nat_lt m from) [] _ (le-ltb m from h)

unstuffed-before : (bits : List Bool) (m : ℕ) → unstuffed bits (suc m) m ≡ []
unfolding unstuffed
unstuffed-before bits zero = refl
unstuffed-before bits (suc n) = cond-true (nat_lt n (suc (suc n))) [] _ (lt-ltb n (suc (suc n)) (omega arith))

is_one : (b : Bool) → beq true b ≡ true → b ≡ true
is_one true e = refl
is_one false e = cc

is_zero : (b : Bool) → beq false b ≡ true → b ≡ false
is_zero true e = cc
is_zero false e = refl

-- after a 1 the bits without stuffing end with it
unstuffed-one : (bits : List Bool) (from m : ℕ) → from ≤ m → bit bits m ≡ true → unstuffed bits from (suc m) ≡ unstuffed bits from m ++ true ∷ []
unfolding ends_with
unstuffed-one bits from m h one =
    let none : ends_with stuffing bits (suc m) ≡ false = ap (λ b. beq false b && ends_with (true ∷ true ∷ true ∷ true ∷ true ∷ false ∷ []) bits m) one in
    unstuffed-suc bits from m h ∙ cond-false (ends_with stuffing bits (suc m)) _ _ none ∙ ap (λ b. unstuffed bits from m ++ b ∷ []) one

-- a 1 comes right before stuffing
one_before : (bits : List Bool) (m : ℕ) → ends_with stuffing bits (suc (suc m)) ≡ true → bit bits m ≡ true
unfolding ends_with
one_before bits m e =
    let earlier = (and_parts (beq false (bit bits (suc m))) (beq true (bit bits m) && ends_with (true ∷ true ∷ true ∷ true ∷ false ∷ []) bits m) e).1 in
    is_one (bit bits m) (and_parts (beq true (bit bits m)) (ends_with (true ∷ true ∷ true ∷ true ∷ false ∷ []) bits m) earlier).0

before_stuffing : (bits : List Bool) (from m : ℕ) → ends_with stuffing bits (suc m) ≡ true → without_zero (unstuffed bits from m) ≡ unstuffed bits from m
unfolding unstuffed
before_stuffing bits from zero e = without_zero-nil
before_stuffing bits from (suc m) e =
    let P : List Bool → Type 0 = λ xs. without_zero xs ≡ xs in
    elim (cases_Bool (nat_lt m from)) [
      | inl on ↦ subst P (sym (cond-true (nat_lt m from) [] _ on)) without_zero-nil
      | inr off ↦ subst P (sym (unstuffed-one bits from m (ltb-false m from off) (one_before bits m e))) (without_zero-true (unstuffed bits from m))
    ]

-- what was collected ends with the 1s that came last, and before them with a 0 that is no stuffing
pub record Ends (collected before : List Bool) (k : ℕ) : Type 0 where
  pub zero_kept : List Bool
  pub whole : collected ≡ (before ++ zero_kept) ++ replicate k true
  pub cut : without_zero (before ++ zero_kept) ≡ before

after_zero : (bits : List Bool) (m from : ℕ) → bit bits m ≡ false → after_flag bits (suc m) ≡ Some from → Ends (unstuffed bits from (suc m)) (unstuffed bits from m) 0
unfolding after_flag
after_zero bits m from is e =
    elim (cases_Bool (ends_with flag bits (suc m))) [
      | inl on ↦
          let here : Some (suc m) ≡ Some from = sym (cond-true (ends_with flag bits (suc m)) (Some (suc m)) (after_flag bits m) on) ∙ e in
          let from_is : suc m ≡ from = cc in
          subst (λ f. Ends (unstuffed bits f (suc m)) (unstuffed bits f m) 0) from_is
          (record { zero_kept = []; whole = unstuffed-from_here bits (suc m) ∙ sym (ap (λ xs. (xs ++ []) ++ []) (unstuffed-before bits m)); cut = ap (λ xs. without_zero (xs ++ [])) (unstuffed-before bits m) ∙ without_zero-nil ∙ sym (unstuffed-before bits m) })
      | inr off ↦
          let earlier : from ≤ m = after_flag-le bits m from (sym (cond-false (ends_with flag bits (suc m)) (Some (suc m)) (after_flag bits m) off) ∙ e) in
          let next = unstuffed-suc bits from m earlier in
          elim (cases_Bool (ends_with stuffing bits (suc m))) [
            | inl dropped ↦ record {
              zero_kept = [];
              whole = next ∙ cond-true (ends_with stuffing bits (suc m)) _ _ dropped ∙ sym (append-nil (unstuffed bits from m ++ []) ∙ append-nil (unstuffed bits from m));
              cut = ap without_zero (append-nil (unstuffed bits from m)) ∙ before_stuffing bits from m dropped;
            }
            | inr kept ↦ record {
              zero_kept = false ∷ [];
              whole = next ∙ cond-false (ends_with stuffing bits (suc m)) _ _ kept ∙ ap (λ b. unstuffed bits from m ++ b ∷ []) is ∙ sym (append-nil (unstuffed bits from m ++ false ∷ []));
              cut = without_zero-false (unstuffed bits from m);
            }
          ]
    ]

replicate-last : (k : ℕ) → replicate k true ++ true ∷ [] ≡ replicate (suc k) true
replicate-last zero = refl
replicate-last (suc k) = ap (λ xs. true ∷ xs) (replicate-last k)

pub after_ones : (bits : List Bool) (k n from : ℕ) → ends_with (ones_back k) bits n ≡ true → after_flag bits n ≡ Some from → Ends (unstuffed bits from n) (unstuffed bits from (n - suc k)) k
unfolding ends_with ones_back after_flag
after_ones bits zero zero from ends e = cc
after_ones bits (suc k) zero from ends e = cc
after_ones bits zero (suc m) from ends e =
    let is : bit bits m ≡ false = is_zero (bit bits m) (and_parts (beq false (bit bits m)) true ends).0 in
    let place : m ≡ suc m - 1 = omega arith in
    subst (λ x. Ends (unstuffed bits from (suc m)) (unstuffed bits from x) 0) place (after_zero bits m from is e)
after_ones bits (suc k) (suc m) from ends e =
    let parts = and_parts (beq true (bit bits m)) (ends_with (ones_back k) bits m) ends in
    let is : bit bits m ≡ true = is_one (bit bits m) parts.0 in
    let none : ends_with flag bits (suc m) ≡ false = ap (λ b. beq false b && ends_with (true ∷ true ∷ true ∷ true ∷ true ∷ true ∷ false ∷ []) bits m) is in
    let last : after_flag bits m ≡ Some from = sym (cond-false (ends_with flag bits (suc m)) (Some (suc m)) (after_flag bits m) none) ∙ e in
    let earlier : Ends (unstuffed bits from m) (unstuffed bits from (m - suc k)) k = after_ones bits k m from parts.1 last in
    let place : m - suc k ≡ suc m - suc (suc k) = omega arith in
    subst (λ x. Ends (unstuffed bits from (suc m)) (unstuffed bits from x) (suc k)) place
    (record {
      zero_kept = earlier.zero_kept;
      whole = unstuffed-one bits from m (after_flag-le bits m from last) is ∙ ap (λ xs. xs ++ true ∷ []) earlier.whole
          ∙ append_assoc (unstuffed bits from (m - suc k) ++ earlier.zero_kept) (replicate k true) (true ∷ [])
          ∙ ap (λ xs. (unstuffed bits from (m - suc k) ++ earlier.zero_kept) ++ xs) (replicate-last k);
      cut = earlier.cut;
    })

pub before_flag-ends : (collected before : List Bool) → Ends collected before 6 → before_flag collected ≡ before
unfolding before_flag
before_flag-ends collected before e =
    let front = before ++ e.zero_kept in
    let ones = true ∷ true ∷ true ∷ true ∷ true ∷ true ∷ [] in
    let place : length collected - 6 ≡ length front = ap (λ xs. length xs - 6) e.whole ∙ omega (arith, length-append front ones) in
    ap without_zero (ap (λ i. take i collected) place ∙ ap (take (length front)) e.whole ∙ take_at front ones (length front) refl) ∙ e.cut

-- after a 0 and six 1s, the content before a flag is what was collected before them
pub before_flag-is : (bits : List Bool) (n from : ℕ) → ends_with (ones_back 6) bits n ≡ true → after_flag bits n ≡ Some from → before_flag (unstuffed bits from n) ≡ unstuffed bits from (n - 7)
before_flag-is bits n from ends e = before_flag-ends (unstuffed bits from n) (unstuffed bits from (n - 7)) (after_ones bits 6 n from ends e)
