-- Lists over ranges of numbers.
use Rattle.std.proofs.Common.{◌≡◌, ℕ, zero, suc, ◌+◌, ◌-◌, ◌<◌, ◌≤◌, ◌==◌, true, List, [], ◌∷◌, ◌++◌, All, flat_map, get_or, sym, ap, ◌∙◌, subst, arith}
use Rattle.std.specs.List.{list_any, range_with_len}
use Rattle.std.proofs.lemmas.Bool.Decides.{Decides-eqb}
use Rattle.std.proofs.lemmas.List.Folds.{list_any_at}
use Rattle.std.proofs.lemmas.List.Elements.{All-append, All-nil}
use Rattle.std.proofs.lemmas.List.FromFn.{get_or-range_with_len, length-range_with_len}

pub All-range : (P : ℕ → Type 0) (a n : ℕ) → ((i : ℕ) → a ≤ i → i < a + n → P i) → All P (range_with_len a n)
All-range P a n each k d lt =
    let within : k < n = omega (arith, length-range_with_len a n) in
    subst P (sym (get_or-range_with_len a n k d within)) (each (a + k) (omega arith) (omega arith))

pub All-flat_map : {X : Type 0} (P : X → Type 0) (f : ℕ → List X) (a n : ℕ) → ((i : ℕ) → a ≤ i → i < a + n → All P (f i)) → All P (flat_map f (range_with_len a n))
All-flat_map P f a zero each = All-nil P
All-flat_map P f a (suc n) each =
    All-append P (f a) (flat_map f (range_with_len (a + 1) n)) (each a (omega arith) (omega arith))
    (All-flat_map P f (a + 1) n (λ i low high. each i (omega arith) (omega arith)))

pub range_split : (a m n : ℕ) → range_with_len a (m + n) ≡ range_with_len a m ++ range_with_len (a + m) n
range_split a zero n =
    let same : zero + n ≡ n = omega arith in
    let start : a ≡ a + zero = omega arith in
    ap (range_with_len a) same ∙ ap (λ b. range_with_len b n) start
range_split a (suc m) n =
    let next : suc m + n ≡ suc (m + n) = omega arith in
    let start : a + 1 + m ≡ a + suc m = omega arith in
    ap (range_with_len a) next ∙ ap (λ xs. a ∷ xs) (range_split (a + 1) m n ∙ ap (λ b. range_with_len (a + 1) m ++ range_with_len b n) start)

pub range_more : (a n : ℕ) → range_with_len a (n + 1) ≡ range_with_len a n ++ (a + n) ∷ []
range_more a n = range_split a n 1

-- one of the numbers is c
pub any_in_range : (c a n : ℕ) → a ≤ c → c < a + n → list_any (λ number. number == c) (range_with_len a n) ≡ true
any_in_range c a n low high =
    let within : c - a < n = omega arith in
    let there : get_or (range_with_len a n) (c - a) 0 ≡ c = get_or-range_with_len a n (c - a) 0 within ∙ (let whole : a + (c - a) ≡ c = omega arith in whole) in
    list_any_at (λ number. number == c) (range_with_len a n) (c - a) 0 (omega (arith, length-range_with_len a n, within)) ((Decides-eqb _ c).1 there)
