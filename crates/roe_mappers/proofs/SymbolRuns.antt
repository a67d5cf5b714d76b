-- Runs of symbols: the octets that they spell, and those that are bad.
use Rattle.std.proofs.Common.{◌≡◌, ℕ, zero, suc, ◌+◌, ◌%◌, ◌<◌, ◌≤◌, ◌==◌, Bool, true, false, cond, ◌&&◌, List, [], ◌∷◌, ◌++◌, length, get_or, Option, Some, None, refl, sym, ap, ◌∙◌, inl, inr, arith}
use Rattle.std.specs.List.{find, range_with_len}
use Rattle.std.proofs.lemmas.Bool.{cases_eq, eq-eqb, ne_eqb, false≢true}
use Rattle.line_code.specs.declared.characters.Char.{Char}
use Rattle.line_code.specs.declared.characters.Char.TheVariants.{Octet, Comma}
use Rattle.line_code.specs.Decoded.{decoded}
use Rattle.roe_mappers.specs.Symbols.{first_bad_symbol, is_bad_by, is_bad_symbol, other_by, others_in}

-- ---- the first bad symbol

find_none : (t : ℕ → Bool) (a m : ℕ) → ((s : ℕ) → a ≤ s → s < a + m → t s ≡ false) → find t (range_with_len a m) ≡ None
find_none t a zero h = refl
find_none t a (suc m) h =
    let here : t a ≡ false = h a (omega arith) (omega arith) in
    let later = find_none t (a + 1) m (λ s low high. h s (omega arith) (omega arith)) in
    ap (λ b. cond b (Some a) (find t (range_with_len (a + 1) m))) here ∙ later

find_at : (t : ℕ → Bool) (a m k : ℕ) → a ≤ k → k < a + m → t k ≡ true → ((s : ℕ) → a ≤ s → s < k → t s ≡ false) → find t (range_with_len a m) ≡ Some k
find_at t a zero k low high bad good = absurd (omega arith)
find_at t a (suc m) k low high bad good =
    elim (cases_eq a k) [
      | inl same ↦
          let here : t a ≡ true = ap t same ∙ bad in
          ap (λ b. cond b (Some a) (find t (range_with_len (a + 1) m))) here ∙ ap Some same
      | inr other ↦
          let above : a + 1 ≤ k = omega (arith, other) in
          let here : t a ≡ false = good a (omega arith) (omega arith) in
          ap (λ b. cond b (Some a) (find t (range_with_len (a + 1) m))) here
          ∙ find_at t (a + 1) m k above (omega arith) bad (λ s le lt. good s (omega arith) lt)
    ]

pub first_bad-none : (n : ℕ) (symbols : List ℕ) → ((s : ℕ) → s < length symbols → is_bad_symbol n s (get_or symbols s 0) ≡ false) → None ≡ first_bad_symbol n symbols
unfolding first_bad_symbol
first_bad-none n symbols h = sym (find_none (λ s. is_bad_symbol n s (get_or symbols s 0)) 0 (length symbols) (λ s low high. h s (omega arith)))

pub first_bad-at : (n : ℕ) (symbols : List ℕ) (k : ℕ) → k < length symbols → is_bad_symbol n k (get_or symbols k 0) ≡ true
    → ((s : ℕ) → s < k → is_bad_symbol n s (get_or symbols s 0) ≡ false) → Some k ≡ first_bad_symbol n symbols
unfolding first_bad_symbol
first_bad-at n symbols k lt bad good = sym (find_at (λ s. is_bad_symbol n s (get_or symbols s 0)) 0 (length symbols) k (omega arith) (omega arith) bad (λ s low below. good s below))

-- ---- symbols that spell no octet

pub others_in-append : (xs ys : List ℕ) → others_in (xs ++ ys) ≡ others_in xs + others_in ys
unfolding others_in
others_in-append [] ys = omega arith
others_in-append (x ∷ xs) ys = omega (arith, others_in-append xs ys)

pub others_in-four : (a b c d : ℕ) → others_in (a ∷ b ∷ c ∷ d ∷ []) ≡ other_by (decoded a) + other_by (decoded b) + other_by (decoded c) + other_by (decoded d)
unfolding others_in
others_in-four a b c d = omega arith

pub others_in-none : others_in [] ≡ 0
unfolding others_in
others_in-none = refl

no_other : (symbols : List ℕ) → others_in symbols ≡ 0 → (s : ℕ) → s < length symbols → other_by (decoded (get_or symbols s 0)) ≡ 0
unfolding others_in
no_other [] h s lt = absurd (omega arith)
no_other (x ∷ symbols) h zero lt = omega arith
no_other (x ∷ symbols) h (suc s) lt = no_other symbols (omega arith) s (omega arith)

-- a symbol that spells an octet is bad only where the comma is due
octet_is_good : (o : Option Char) → other_by o ≡ 0 → is_bad_by false o ≡ false
octet_is_good None h = absurd (omega arith)
octet_is_good (Some Comma) h = absurd (omega arith)
octet_is_good (Some (Octet octet)) h = refl

comma_is_other : (o : Option Char) → is_bad_by true o ≡ false → other_by o ≡ 1
comma_is_other None h = refl
comma_is_other (Some Comma) h = refl
comma_is_other (Some (Octet octet)) h = absurd (false≢true (sym h))

and-false : (b : Bool) → (b && false) ≡ false
and-false true = refl
and-false false = refl

and-true : (b : Bool) → (b && true) ≡ b
and-true true = refl
and-true false = refl

-- no symbol is bad of a frame that begins no hyperframe, whose symbols spell octets
pub clean_within : (n : ℕ) (symbols : List ℕ) → ¬ (n % 256 ≡ 0) → others_in symbols ≡ 0 → first_bad_symbol n symbols ≡ None
clean_within n symbols within none =
    let due : (n % 256 == 0) ≡ false = ne_eqb (n % 256) 0 within in
    sym (first_bad-none n symbols (λ s lt.
    ap (λ b. is_bad_by (s == 0 && b) (decoded (get_or symbols s 0))) due ∙ ap (λ b. is_bad_by b (decoded (get_or symbols s 0))) (and-false (s == 0))
    ∙ octet_is_good (decoded (get_or symbols s 0)) (no_other symbols none s lt)))

-- no symbol is bad of a frame that begins a hyperframe, whose symbols after the comma spell octets
pub clean_first : (n : ℕ) (symbols : List ℕ) → n % 256 ≡ 0 → 0 < length symbols → others_in symbols ≡ 1 → is_bad_symbol n 0 (get_or symbols 0 0) ≡ false → first_bad_symbol n symbols ≡ None
unfolding others_in
clean_first n [] first some one good = absurd (omega arith)
clean_first n (x ∷ symbols) first some one good =
    let due : (n % 256 == 0) ≡ true = eq-eqb (n % 256) 0 first in
    let comma : is_bad_by true (decoded x) ≡ false = sym (ap (λ b. is_bad_by b (decoded x)) due) ∙ good in
    let none : others_in symbols ≡ 0 = omega (arith, comma_is_other (decoded x) comma) in
    let each : (s : ℕ) → s < length (x ∷ symbols) → is_bad_symbol n s (get_or (x ∷ symbols) s 0) ≡ false = each_good n x symbols good none in
    sym (first_bad-none n (x ∷ symbols) each)
  where
    each_good : (m y : ℕ) (ys : List ℕ) → is_bad_symbol m 0 y ≡ false → others_in ys ≡ 0 → (s : ℕ) → s < length (y ∷ ys) → is_bad_symbol m s (get_or (y ∷ ys) s 0) ≡ false
    each_good m y ys here later zero lt = here
    each_good m y ys here later (suc s) lt =
        ap (λ b. is_bad_by (b && (m % 256 == 0)) (decoded (get_or ys s 0))) (ne_eqb (suc s) 0 (λ e. omega arith))
        ∙ octet_is_good (decoded (get_or ys s 0)) (no_other ys later s (omega arith))
