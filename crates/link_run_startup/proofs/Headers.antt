-- The fields of a line, one after another, and those of the header of a start-up.
use Rattle.std.proofs.Common.{◌≡◌, inl, inr, ◌+◌, ◌<◌, ◌≤◌, get_or, ◌++◌, ◌∷◌, [], ℕ, List, length, take, drop, refl, sym, ap, ◌∙◌, arith, Bool, true, false, Option, Some, None}
use Rattle.std.specs.Prelude.{codes, bytes_eq, nat_lt, ◌==◌, ◌&&◌, ◌||◌, not, slice_index, if◌then◌else◌}
use Rattle.std.specs.List.{position_or_len, before_first, after_first}
use Rattle.std.specs.Str.{all_ascii_digits}
use Rattle.std.specs.Str.Parse.{digits_value}
use Rattle.std.specs.Char.{is_ascii_digit}
use Rattle.std.proofs.lemmas.List.Sums.{fails_before_first, passes_at_first, split_at_first}
use Rattle.std.proofs.lemmas.Bool.{cases_lt, cond-true, cond-false, lt-ltb, le-ltb, eqb-true}
use Rattle.std.proofs.lemmas.List.Splits.{slice_split_first, slice_split_none, length-slice_split}
use Rattle.link_text.specs.Decimals.{decimal_value}
use Rattle.startup_machine.specs.declared.offer.Offer.{Offer}
use Rattle.link_text.specs.Fields.{is_space, cut_at, at_first_space, fields_of}
use Rattle.link_run_startup.specs.Events.{caps_of, both, header_caps}

-- what a line is cut into
found_at : (line : List ℕ) → position_or_len is_space line < length line
    → at_first_space line ≡ Some (take (position_or_len is_space line) line, drop (position_or_len is_space line + 1) line)
found_at line within =
    let n = position_or_len is_space line in
    ap (cut_at line) (cond-true (nat_lt n (length line)) (Some n) None (lt-ltb n (length line) within))

found_none : (line : List ℕ) → length line ≤ position_or_len is_space line → at_first_space line ≡ None
found_none line beyond =
    let n = position_or_len is_space line in
    ap (cut_at line) (cond-false (nat_lt n (length line)) (Some n) None (le-ltb n (length line) beyond))

same_fields : (a b a' b' : List ℕ) → ◌≡◌ {A = Option (List ℕ × List ℕ)} (Some (a, b)) (Some (a', b')) → (a ≡ a') × (b ≡ b')
same_fields a b a' b' same =
    let pair : ◌≡◌ {A = List ℕ × List ℕ} (a, b) (a', b') = cc in
    (ap (λ (p : List ℕ × List ℕ). p.0) pair, ap (λ (p : List ℕ × List ℕ). p.1) pair)

pub fields_some : (line a b : List ℕ) → at_first_space line ≡ Some (a, b) → fields_of line ≡ a ∷ fields_of b
fields_some line a b is = elim (cases_lt (position_or_len is_space line) (length line)) [
  | inl within ↦
      let same = same_fields _ _ a b (sym (found_at line within) ∙ is) in
      slice_split_first is_space line 0 within ∙ ap (λ first. first ∷ fields_of (after_first is_space line)) same.0 ∙ ap (λ rest. a ∷ fields_of rest) same.1
  | inr beyond ↦ absurd (let none = sym (found_none line beyond) ∙ is in cc)
]

pub fields_none : (line : List ℕ) → at_first_space line ≡ None → fields_of line ≡ line ∷ []
fields_none line is = elim (cases_lt (position_or_len is_space line) (length line)) [
  | inl within ↦ absurd (let some = sym (found_at line within) ∙ is in cc)
  | inr beyond ↦ slice_split_none is_space line (λ k d within. fails_before_first is_space line k d (omega arith))
]

-- a number has no space
and_false : (b : Bool) → (b && false) ≡ false
and_false true = refl
and_false false = refl

no_digits : (a b : List ℕ) → all_ascii_digits (a ++ 32 ∷ b) ≡ false
no_digits [] b = refl
no_digits (c ∷ a) b = ap (λ rest. is_ascii_digit c && rest) (no_digits a b) ∙ and_false (is_ascii_digit c)

no_number : (text a b : List ℕ) → at_first_space text ≡ Some (a, b) → decimal_value text ≡ None
no_number text a b is = elim (cases_lt (position_or_len is_space text) (length text)) [
  | inl within ↦
      let space : get_or text (position_or_len is_space text) 0 ≡ 32 = eqb-true _ 32 (passes_at_first is_space text 0 within) in
      let all : all_ascii_digits text ≡ false =
      ap all_ascii_digits (split_at_first is_space text 0 within ∙ ap (λ c. before_first is_space text ++ c ∷ after_first is_space text) space)
      ∙ no_digits (before_first is_space text) (after_first is_space text) in
      ap (λ digits. if digits && (nat_lt 0 (length text) && (length text == 1 || not (slice_index text 0 == 48))) then Some (digits_value 10 text) else None) all
  | inr beyond ↦ absurd (let none = sym (found_none text beyond) ∙ is in cc)
]

-- what four spaces give
abbrev pub caps_in : List ℕ → List ℕ → List ℕ → List ℕ → List ℕ → Option (Offer × Offer)
caps_in word hdlc pointer hdlc' pointer' =
    if bytes_eq word (codes "startup") then both (caps_of (decimal_value hdlc) (decimal_value pointer)) (caps_of (decimal_value hdlc') (decimal_value pointer')) else None

no_caps : (hdlc : Option ℕ) → caps_of hdlc None ≡ None
no_caps None = refl
no_caps (Some n) = refl

not_both : (one : Option Offer) → both one None ≡ None
not_both None = refl
not_both (Some caps) = refl

either_none : (b : Bool) → (if b then (let none : Option (Offer × Offer) = None in none) else None) ≡ None
either_none true = refl
either_none false = refl

module _ (word hdlc pointer hdlc' pointer' : List ℕ) where
  pub caps_none_one : caps_of (decimal_value hdlc) (decimal_value pointer) ≡ None → caps_in word hdlc pointer hdlc' pointer' ≡ None
  caps_none_one none =
      ap (λ one. if bytes_eq word (codes "startup") then both one (caps_of (decimal_value hdlc') (decimal_value pointer')) else None) none
      ∙ either_none (bytes_eq word (codes "startup"))

  pub caps_none_two : caps_of (decimal_value hdlc') (decimal_value pointer') ≡ None → caps_in word hdlc pointer hdlc' pointer' ≡ None
  caps_none_two none =
      ap (λ two. if bytes_eq word (codes "startup") then both (caps_of (decimal_value hdlc) (decimal_value pointer)) two else None) none
      ∙ ap (λ given. if bytes_eq word (codes "startup") then given else None) (not_both (caps_of (decimal_value hdlc) (decimal_value pointer)))
      ∙ either_none (bytes_eq word (codes "startup"))

  pub caps_other : bytes_eq word (codes "startup") ≡ false → caps_in word hdlc pointer hdlc' pointer' ≡ None
  caps_other other = cond-false (bytes_eq word (codes "startup")) _ _ other

  pub caps_some : (one two : Offer) → bytes_eq word (codes "startup") ≡ true → caps_of (decimal_value hdlc) (decimal_value pointer) ≡ Some one
      → caps_of (decimal_value hdlc') (decimal_value pointer') ≡ Some two → caps_in word hdlc pointer hdlc' pointer' ≡ Some (one, two)
  caps_some one two named is is' =
      cond-true (bytes_eq word (codes "startup")) _ _ named
      ∙ ap (λ given. both given (caps_of (decimal_value hdlc') (decimal_value pointer'))) is ∙ ap (both (Some one)) is'

module _ (line word rest : List ℕ) where
  pub header_one : at_first_space line ≡ None → header_caps (fields_of line) ≡ None
  header_one none = ap header_caps (fields_none line none)

  pub header_two : at_first_space line ≡ Some (word, rest) → at_first_space rest ≡ None → header_caps (fields_of line) ≡ None
  header_two first none = ap header_caps (fields_some line word rest first ∙ ap (λ f. word ∷ f) (fields_none rest none))

module _ (line word rest hdlc rest' : List ℕ) where
  pub header_three : at_first_space line ≡ Some (word, rest) → at_first_space rest ≡ Some (hdlc, rest') → at_first_space rest' ≡ None → header_caps (fields_of line) ≡ None
  header_three first second none =
      ap header_caps (fields_some line word rest first ∙ ap (λ f. word ∷ f) (fields_some rest hdlc rest' second ∙ ap (λ f. hdlc ∷ f) (fields_none rest' none)))

module _ (line word rest hdlc rest' pointer rest'' : List ℕ) where
  pub header_four : at_first_space line ≡ Some (word, rest) → at_first_space rest ≡ Some (hdlc, rest') → at_first_space rest' ≡ Some (pointer, rest'') → at_first_space rest'' ≡ None
      → header_caps (fields_of line) ≡ None
  header_four first second third none =
      ap header_caps (fields_some line word rest first ∙ ap (λ f. word ∷ f) (fields_some rest hdlc rest' second ∙ ap (λ f. hdlc ∷ f) (fields_some rest' pointer rest'' third
      ∙ ap (λ f. pointer ∷ f) (fields_none rest'' none))))

-- the last field is the last
six : (word hdlc pointer hdlc' a : List ℕ) (more : List (List ℕ)) → 0 < length more → header_caps (word ∷ hdlc ∷ pointer ∷ hdlc' ∷ a ∷ more) ≡ None
six word hdlc pointer hdlc' a [] some = absurd (omega arith)
six word hdlc pointer hdlc' a (x ∷ more) some = refl

last_by : (word hdlc pointer hdlc' pointer' : List ℕ) (found : Option (List ℕ × List ℕ)) → at_first_space pointer' ≡ found
    → header_caps (word ∷ hdlc ∷ pointer ∷ hdlc' ∷ fields_of pointer') ≡ caps_in word hdlc pointer hdlc' pointer'
last_by word hdlc pointer hdlc' pointer' None none = ap (λ f. header_caps (word ∷ hdlc ∷ pointer ∷ hdlc' ∷ f)) (fields_none pointer' none)
last_by word hdlc pointer hdlc' pointer' (Some p) some =
    ap (λ f. header_caps (word ∷ hdlc ∷ pointer ∷ hdlc' ∷ f)) (fields_some pointer' p.0 p.1 some)
    ∙ six word hdlc pointer hdlc' p.0 (fields_of p.1) (omega (arith, length-slice_split is_space p.1))
    ∙ sym (caps_none_two word hdlc pointer hdlc' pointer' (ap (caps_of (decimal_value hdlc')) (no_number pointer' p.0 p.1 some) ∙ no_caps (decimal_value hdlc')))

module _ (line word rest hdlc rest' pointer rest'' hdlc' pointer' : List ℕ) where
  pub header_five : at_first_space line ≡ Some (word, rest) → at_first_space rest ≡ Some (hdlc, rest') → at_first_space rest' ≡ Some (pointer, rest'') → at_first_space rest'' ≡ Some (hdlc', pointer')
      → header_caps (fields_of line) ≡ caps_in word hdlc pointer hdlc' pointer'
  header_five first second third fourth =
      ap header_caps (fields_some line word rest first ∙ ap (λ f. word ∷ f) (fields_some rest hdlc rest' second ∙ ap (λ f. hdlc ∷ f) (fields_some rest' pointer rest'' third
      ∙ ap (λ f. pointer ∷ f) (fields_some rest'' hdlc' pointer' fourth)))) ∙ last_by word hdlc pointer hdlc' pointer' (at_first_space pointer') refl

-- a test that was negated
pub not_true : (b : Bool) → true ≡ not b → b ≡ false
not_true true is = absurd (cc)
not_true false is = refl

pub not_false : (b : Bool) → false ≡ not b → b ≡ true
not_false true is = refl
not_false false is = absurd (cc)
