-- Items of lists.
use Rattle.std.proofs.Common.{◌≡◌, ℕ, zero, suc, ◌+◌, ◌<◌, ◌≤◌, List, [], ◌∷◌, ◌++◌, map, take, drop, set, append-nil, length, get_or, Some, slice_get, refl, sym, ap, ◌∙◌, subst, arith, inl, inr}
use Rattle.std.specs.List.{HoldsAt}
use Rattle.std.proofs.lemmas.Bool.{cases_lt}
use Rattle.std.proofs.Math.ListN.{drop_of_length-le}
use Rattle.std.proofs.lemmas.List.{take_all}

-- an item of a list, at a place of it
abbrev pub item : {A : Type 0} (xs : List A) (i : ℕ) → i < length xs → A
item [] i inside = absurd (omega arith)
item (x ∷ xs) zero inside = x
item (x ∷ xs) (suc i) inside = item xs i (omega arith)

pub item_at : {A : Type 0} (xs : List A) (i : ℕ) (inside : i < length xs) → slice_get xs i ≡ Some (item xs i inside)
item_at [] i inside = absurd (omega arith)
item_at (x ∷ xs) zero inside = refl
item_at (x ∷ xs) (suc i) inside = item_at xs i (omega arith)

-- ---- a function over the first items

abbrev pub partly : {A : Type 0} → (A → A) → ℕ → List A → List A
partly g i xs = map g (take i xs) ++ drop i xs

pub get_or-partly : {A : Type 0} (g : A → A) (i : ℕ) (xs : List A) (d : A) → i < length xs → get_or (partly g i xs) i d ≡ get_or xs i d
get_or-partly g i [] d inside = absurd (omega arith)
get_or-partly g zero (x ∷ xs) d inside = refl
get_or-partly g (suc i) (x ∷ xs) d inside = get_or-partly g i xs d (omega arith)

set-partly_next : {A : Type 0} (g : A → A) (i : ℕ) (xs : List A) (d : A) → i < length xs → set (partly g i xs) i (g (get_or xs i d)) ≡ partly g (suc i) xs
set-partly_next g i [] d inside = absurd (omega arith)
set-partly_next g zero (x ∷ xs) d inside = refl
set-partly_next g (suc i) (x ∷ xs) d inside = ap (λ ys. g x ∷ ys) (set-partly_next g i xs d (omega arith))

pub set-partly : {A : Type 0} (g : A → A) (i : ℕ) (xs : List A) (d : A) → i < length xs → set (partly g i xs) i (g (get_or xs i d)) ≡ partly g (i + 1) xs
set-partly g i xs d inside =
    let next : suc i ≡ i + 1 = omega arith in
    set-partly_next g i xs d inside ∙ ap (λ k. partly g k xs) next

pub partly-all : {A : Type 0} (g : A → A) (i : ℕ) (xs : List A) → length xs ≤ i → partly g i xs ≡ map g xs
partly-all g zero [] past = refl
partly-all g (suc i) [] past = refl
partly-all g zero (x ∷ xs) past = absurd (omega arith)
partly-all g (suc i) (x ∷ xs) past = ap (λ ys. g x ∷ ys) (partly-all g i xs (omega arith))

-- ---- lists that grow item by item

-- there are n items, and each is what its place asks for
pub record Fills {A : Type 0} (P : ℕ → A → Type 0) (n : ℕ) (xs : List A) : Type 0 where
  pub as_many : length xs ≡ n
  pub each : (i : ℕ) → i < n → HoldsAt (P i) xs i

pub fills-none : {A : Type 0} (P : ℕ → A → Type 0) → Fills P 0 []
fills-none P = record { as_many = refl; each = λ i inside d. absurd (omega arith) }

get_or-last : {A : Type 0} (xs : List A) (x d : A) → get_or (xs ++ x ∷ []) (length xs) d ≡ x
get_or-last [] x d = refl
get_or-last (y ∷ xs) x d = get_or-last xs x d

get_or-front : {A : Type 0} (xs : List A) (x d : A) (i : ℕ) → i < length xs → get_or (xs ++ x ∷ []) i d ≡ get_or xs i d
get_or-front [] x d i inside = absurd (omega arith)
get_or-front (y ∷ xs) x d zero inside = refl
get_or-front (y ∷ xs) x d (suc i) inside = get_or-front xs x d i (omega arith)

length-push : {A : Type 0} (xs : List A) (x : A) → length (xs ++ x ∷ []) ≡ length xs + 1
length-push [] x = refl
length-push (y ∷ xs) x = let rest = length-push xs x in omega arith

pub fills-push : {A : Type 0} (P : ℕ → A → Type 0) (n : ℕ) (xs : List A) (x : A) → Fills P n xs → P n x → Fills P (n + 1) (xs ++ x ∷ [])
fills-push P n xs x fills is = record {
  as_many = length-push xs x ∙ ap (λ k. k + 1) fills.as_many;
  each = λ i inside d. elim (cases_lt i n) [
    | inl below ↦ let within : i < length xs = omega (arith, fills.as_many) in subst (P i) (sym (get_or-front xs x d i within)) (fills.each i below d)
    | inr last ↦
        let here : i ≡ n = omega arith in
        let end : i ≡ length xs = here ∙ sym fills.as_many in
        subst (P i) (sym (ap (λ k. get_or (xs ++ x ∷ []) k d) end ∙ get_or-last xs x d)) (subst (λ k. P k x) (sym here) is)
  ];
}

-- ---- a list that was written through a slice

pub items-written : {A : Type 0} (xs ys : List A) (n : ℕ) → length xs ≡ length ys → n ≡ length ys → take n (xs ++ drop (length xs) ys) ≡ xs
items-written xs ys n same long =
    ap (λ zs. take n (xs ++ zs)) (drop_of_length-le ys (omega (arith, same))) ∙ ap (take n) (append-nil xs) ∙ take_all n xs (omega (arith, same, long))
