-- Items of lists.
use Rattle.std.proofs.Common.{◌≡◌, ◌==◌, ◌||◌, ℕ, zero, suc, ◌+◌, ◌<◌, ◌≤◌, Bool, true, false, cond, List, [], ◌∷◌, ◌++◌, map, take, drop, set, append-nil, length, get_or, position, All, Contains, Some, None, slice_get, refl, sym, ap, ◌∙◌, subst, arith, inl, inr}
use Rattle.std.specs.List.{HoldsAt, count_by, find, list_any, position_or_len}
use Rattle.std.specs.Option.{unwrap_or}
use Rattle.std.proofs.lemmas.Bool.{cases_eq, cases_lt, cases_Bool, false≢true, lt-ltb, ne_eqb}
use Rattle.std.proofs.Math.ListN.{drop_of_length-le}
use Rattle.std.proofs.lemmas.List.{take_all}
use Rattle.std.proofs.lemmas.List.Folds.{find_at}
use Rattle.std.proofs.lemmas.List.Sums.{fails_before_first, sum_by-cons}
use Rattle.std.proofs.lemmas.Option.{get_or_from_slice_get, slice_get-get_or, slice_get_within, none-some, same_Some}

-- an item that was read has what holds at its place
pub at_place : {A : Type 0} (P : A → Type 0) (xs : List A) (i : ℕ) (x : A) → slice_get xs i ≡ Some x → HoldsAt P xs i → P x
at_place P xs i x read h = subst P (get_or_from_slice_get xs i x x read) (h x)

pub of_all : {A : Type 0} (P : A → Type 0) (xs : List A) (i : ℕ) (x : A) → slice_get xs i ≡ Some x → All P xs → P x
of_all P xs i x read h = subst P (get_or_from_slice_get xs i x x read) (h i x (slice_get_within xs i x read))

pub contained : {A : Type 0} (xs : List A) (i : ℕ) (x : A) → slice_get xs i ≡ Some x → Contains xs x
contained xs i x read = (i, slice_get_within xs i x read, get_or_from_slice_get xs i x x read)

-- no item passes a test that has no first place
pub none_passes : {A : Type 0} (t : A → Bool) (xs : List A) (i : ℕ) (x : A) → position t xs ≡ None → slice_get xs i ≡ Some x → t x ≡ false
none_passes t xs i x none read =
    let inside = slice_get_within xs i x read in
    elim (cases_lt (position_or_len t xs) (length xs)) [
      | inl some ↦ absurd (none-some (position_or_len t xs) (sym none ∙ ap (λ b. cond b (Some (position_or_len t xs)) None) (lt-ltb (position_or_len t xs) (length xs) some)))
      | inr past ↦ ap t (sym (get_or_from_slice_get xs i x x read)) ∙ fails_before_first t xs i x (omega arith)
    ]

pub none_counts : {A : Type 0} (t : A → Bool) (xs : List A) → ((k : ℕ) (d : A) → k < length xs → t (get_or xs k d) ≡ false) → count_by t xs ≡ 0
none_counts t [] none = refl
none_counts t (x ∷ xs) none =
    let first : cond {A = ℕ} (t x) 1 0 ≡ 0 = ap (λ b. cond {A = ℕ} b 1 0) (none 0 x (omega arith)) in
    let more = sum_by-cons (λ y. cond (t y) 1 0) x xs in
    let rest = none_counts t xs (λ k d inside. none (suc k) d (omega arith)) in
    omega (arith, first, more, rest)

pub one_inside : {A : Type 0} (t : A → Bool) (xs : List A) → count_by t xs ≡ 1 → position_or_len t xs < length xs
one_inside t xs one = elim (cases_lt (position_or_len t xs) (length xs)) [
  | inl inside ↦ inside
  | inr past ↦ absurd (let none = none_counts t xs (λ k e inside. fails_before_first t xs k e (omega arith)) in omega (arith, one, none))
]

one_at : {A : Type 0} (t : A → Bool) (xs : List A) → count_by t xs ≡ 1 → unwrap_or (position t xs) 0 ≡ position_or_len t xs
one_at t xs one = ap (λ b. unwrap_or (cond b (Some (position_or_len t xs)) None) 0) (lt-ltb (position_or_len t xs) (length xs) (one_inside t xs one))

-- the item that passes alone has a place, at which it is found
pub one_place : {A : Type 0} (t : A → Bool) (xs : List A) → count_by t xs ≡ 1 → unwrap_or (position t xs) 0 < length xs
one_place t xs one = let at = one_at t xs one in let inside = one_inside t xs one in omega (arith, at, inside)

pub one_passes : {A : Type 0} (t : A → Bool) (xs : List A) (d : A) → count_by t xs ≡ 1 → find t xs ≡ Some (get_or xs (unwrap_or (position t xs) 0) d)
one_passes t xs d one =
    find_at t xs ∙ slice_get-get_or xs (position_or_len t xs) d (one_inside t xs one) ∙ ap (λ k. Some (get_or xs k d)) (sym (one_at t xs one))

-- the item that is found passes
pub found-passes : {A : Type 0} (t : A → Bool) (xs : List A) (x : A) → find t xs ≡ Some x → t x ≡ true
found-passes t [] x found = absurd (none-some x found)
found-passes t (y ∷ xs) x found = elim (cases_Bool (t y)) [
  | inl passes ↦ subst (λ z. t z ≡ true) (same_Some y x (sym (ap (λ b. cond b (Some y) (find t xs)) passes) ∙ found)) passes
  | inr fails ↦ found-passes t xs x (sym (ap (λ b. cond b (Some y) (find t xs)) fails) ∙ found)
]

-- ---- a function over the first items

abbrev pub partly : {A : Type 0} → (A → A) → ℕ → List A → List A
partly g i xs = map g (take i xs) ++ drop i xs

pub get_or-partly : {A : Type 0} (g : A → A) (i : ℕ) (xs : List A) (d : A) → i < length xs → get_or (partly g i xs) i d ≡ get_or xs i d
get_or-partly g i [] d inside = absurd (omega arith)
get_or-partly g zero (x ∷ xs) d inside = refl
get_or-partly g (suc i) (x ∷ xs) d inside = get_or-partly g i xs d (omega arith)

set-partly_next : {A : Type 0} (g : A → A) (i : ℕ) (xs : List A) (d : A) → i < length xs → set (partly g i xs) i (g (get_or xs i d)) ≡ partly g (suc i) xs
set-partly_next g i [] d inside = absurd (omega arith)
set-partly_next g zero (x ∷ xs) d inside = refl
set-partly_next g (suc i) (x ∷ xs) d inside = ap (λ ys. g x ∷ ys) (set-partly_next g i xs d (omega arith))

pub set-partly : {A : Type 0} (g : A → A) (i : ℕ) (xs : List A) (d : A) → i < length xs → set (partly g i xs) i (g (get_or xs i d)) ≡ partly g (i + 1) xs
set-partly g i xs d inside =
    let next : suc i ≡ i + 1 = omega arith in
    set-partly_next g i xs d inside ∙ ap (λ k. partly g k xs) next

pub partly-all : {A : Type 0} (g : A → A) (i : ℕ) (xs : List A) → length xs ≤ i → partly g i xs ≡ map g xs
partly-all g zero [] past = refl
partly-all g (suc i) [] past = refl
partly-all g zero (x ∷ xs) past = absurd (omega arith)
partly-all g (suc i) (x ∷ xs) past = ap (λ ys. g x ∷ ys) (partly-all g i xs (omega arith))

-- ---- lists that grow item by item

-- there are n items, and each is what its place asks for
pub record Fills {A : Type 0} (P : ℕ → A → Type 0) (n : ℕ) (xs : List A) : Type 0 where
  pub as_many : length xs ≡ n
  pub each : (i : ℕ) → i < n → HoldsAt (P i) xs i

pub fills-none : {A : Type 0} (P : ℕ → A → Type 0) → Fills P 0 []
fills-none P = record { as_many = refl; each = λ i inside d. absurd (omega arith) }

get_or-last : {A : Type 0} (xs : List A) (x d : A) → get_or (xs ++ x ∷ []) (length xs) d ≡ x
get_or-last [] x d = refl
get_or-last (y ∷ xs) x d = get_or-last xs x d

get_or-front : {A : Type 0} (xs : List A) (x d : A) (i : ℕ) → i < length xs → get_or (xs ++ x ∷ []) i d ≡ get_or xs i d
get_or-front [] x d i inside = absurd (omega arith)
get_or-front (y ∷ xs) x d zero inside = refl
get_or-front (y ∷ xs) x d (suc i) inside = get_or-front xs x d i (omega arith)

length-push : {A : Type 0} (xs : List A) (x : A) → length (xs ++ x ∷ []) ≡ length xs + 1
length-push [] x = refl
length-push (y ∷ xs) x = let rest = length-push xs x in omega arith

pub fills-push : {A : Type 0} (P : ℕ → A → Type 0) (n : ℕ) (xs : List A) (x : A) → Fills P n xs → P n x → Fills P (n + 1) (xs ++ x ∷ [])
fills-push P n xs x fills is = record {
  as_many = length-push xs x ∙ ap (λ k. k + 1) fills.as_many;
  each = λ i inside d. elim (cases_lt i n) [
    | inl below ↦ let within : i < length xs = omega (arith, fills.as_many) in subst (P i) (sym (get_or-front xs x d i within)) (fills.each i below d)
    | inr last ↦
        let here : i ≡ n = omega arith in
        let end : i ≡ length xs = here ∙ sym fills.as_many in
        subst (P i) (sym (ap (λ k. get_or (xs ++ x ∷ []) k d) end ∙ get_or-last xs x d)) (subst (λ k. P k x) (sym here) is)
  ];
}

-- ---- a number that a test finds in a list

pub contains-listed : (xs : List ℕ) (x : ℕ) → list_any (λ y. y == x) xs ≡ true → Contains xs x
contains-listed [] x listed = absurd (false≢true listed)
contains-listed (y ∷ xs) x listed = elim (cases_eq y x) [
  | inl same ↦ (0, omega arith, same)
  | inr other ↦
      let rest = contains-listed xs x (ap (λ b. b || list_any (λ z. z == x) xs) (sym (ne_eqb y x other)) ∙ listed) in
      (suc rest.0, omega (arith, rest.1), rest.2)
]

-- ---- a list that was written through a slice

pub items-written : {A : Type 0} (xs ys : List A) (n : ℕ) → length xs ≡ length ys → n ≡ length ys → take n (xs ++ drop (length xs) ys) ≡ xs
items-written xs ys n same long =
    ap (λ zs. take n (xs ++ zs)) (drop_of_length-le ys (omega (arith, same))) ∙ ap (take n) (append-nil xs) ∙ take_all n xs (omega (arith, same, long))
