-- What stands in lists that are made of pieces, of a filter, or of a range of numbers.
use Rattle.std.proofs.Common.{◌≡◌, ℕ, zero, suc, ◌+◌, ◌<◌, ◌≤◌, Bool, true, false, List, [], ◌∷◌, ◌++◌, length, map, get_or, All, Contains, cond, count_by, sym, refl, ap, ◌∙◌, subst, arith}
use Rattle.std.specs.Prelude.{filter}
use Rattle.std.specs.List.{flat_map, range_with_len}
use Rattle.std.proofs.lemmas.Bool.{cond-true, cond_both}
use Rattle.std.proofs.lemmas.List.{get_or-map, length-map}
use Rattle.std.proofs.lemmas.List.Elements.{All-append, All-head, All-nil, All-tail, Contains-append_left, Contains-append_right}
use Rattle.std.proofs.lemmas.List.FromFn.{get_or-range_with_len, length-range_with_len}
use Rattle.std.proofs.lemmas.List.Sums.{sum_by-cons}

-- ---- what holds of each element

pub All-pieces : {X A : Type 0} (P : A → Type 0) (Q : X → Type 0) (f : X → List A) → ((x : X) → Q x → All P (f x)) → (xs : List X) → All Q xs → All P (flat_map f xs)
All-pieces P Q f each [] all = All-nil P
All-pieces P Q f each (x ∷ xs) all = All-append P (f x) (flat_map f xs) (each x (All-head Q x xs all)) (All-pieces P Q f each xs (All-tail Q x xs all))

-- the first of one
pub first_of_one : {X : Type 0} (P : X → Type 0) (xs : List X) → length xs ≡ 1 → All P xs → (x : X) × P x
first_of_one P [] one all = absurd (omega arith)
first_of_one P (x ∷ xs) one all = (x, All-head P x xs all)

-- ---- what a list contains

Contains-piece_at : {X A : Type 0} (f : X → List A) (xs : List X) (x : X) (a : A) (k : ℕ) → k < length xs → get_or xs k x ≡ x → Contains (f x) a → Contains (flat_map f xs) a
Contains-piece_at f [] x a k lt is here = absurd (omega arith)
Contains-piece_at f (y ∷ ys) x a zero lt is here = Contains-append_left (f y) (flat_map f ys) a (subst (λ z. Contains (f z) a) (sym is) here)
Contains-piece_at f (y ∷ ys) x a (suc k) lt is here = Contains-append_right (f y) (flat_map f ys) a (Contains-piece_at f ys x a k (omega arith) is here)

pub Contains-pieces : {X A : Type 0} (f : X → List A) (xs : List X) (x : X) (a : A) → Contains xs x → Contains (f x) a → Contains (flat_map f xs) a
Contains-pieces f xs x a there here = Contains-piece_at f xs x a there.0 there.1 there.2 here

pub Contains-map : {X Y : Type 0} (f : X → Y) (xs : List X) (x : X) → Contains xs x → Contains (map f xs) (f x)
Contains-map f xs x there = (there.0, omega (arith, there.1, length-map xs f), get_or-map f xs there.0 x (f x) there.1 ∙ ap f there.2)

Contains-passing_at : {X : Type 0} (test : X → Bool) (xs : List X) (x : X) (k : ℕ) → k < length xs → get_or xs k x ≡ x → test x ≡ true → Contains (filter test xs) x
Contains-passing_at test [] x k lt is passes = absurd (omega arith)
Contains-passing_at test (y ∷ ys) x zero lt is passes =
    subst (λ zs. Contains zs x) (sym (cond-true (test y) (y ∷ filter test ys) (filter test ys) (ap test is ∙ passes))) (0, omega arith, is)
Contains-passing_at test (y ∷ ys) x (suc k) lt is passes =
    let rest = Contains-passing_at test ys x k (omega arith) is passes in
    cond_both (test y) (y ∷ filter test ys) (filter test ys) (λ zs. Contains zs x) (λ _. (suc rest.0, omega (arith, rest.1), rest.2)) (λ _. rest)

pub Contains-passing : {X : Type 0} (test : X → Bool) (xs : List X) (x : X) → Contains xs x → test x ≡ true → Contains (filter test xs) x
Contains-passing test xs x there passes = Contains-passing_at test xs x there.0 there.1 there.2 passes

pub Contains-below : (n i : ℕ) → i < n → Contains (range_with_len 0 n) i
Contains-below n i lt = (i, omega (arith, length-range_with_len 0 n), get_or-range_with_len 0 n i i lt ∙ omega arith)

-- ---- functions that are the same at each number of a range

pub cond-same : {X : Type 0} (b : Bool) (x y z : X) → (b ≡ true → x ≡ y) → cond b x z ≡ cond b y z
cond-same true x y z same = same refl
cond-same false x y z same = refl

pub map-same : {X : Type 0} (f g : ℕ → X) (a n : ℕ) → ((i : ℕ) → a ≤ i → i < a + n → f i ≡ g i) → map f (range_with_len a n) ≡ map g (range_with_len a n)
map-same f g a zero same = refl
map-same f g a (suc n) same =
    ap (λ x. x ∷ map f (range_with_len (a + 1) n)) (same a (omega arith) (omega arith))
    ∙ ap (λ xs. g a ∷ xs) (map-same f g (a + 1) n (λ i from below. same i (omega arith) (omega arith)))

pub flat_map-same : {X : Type 0} (f g : ℕ → List X) (a n : ℕ) → ((i : ℕ) → a ≤ i → i < a + n → f i ≡ g i) → flat_map f (range_with_len a n) ≡ flat_map g (range_with_len a n)
flat_map-same f g a zero same = refl
flat_map-same f g a (suc n) same =
    ap (λ xs. xs ++ flat_map f (range_with_len (a + 1) n)) (same a (omega arith) (omega arith))
    ∙ ap (λ xs. g a ++ xs) (flat_map-same f g (a + 1) n (λ i from below. same i (omega arith) (omega arith)))

pub count_by-all : (test : ℕ → Bool) (a n : ℕ) → ((i : ℕ) → a ≤ i → i < a + n → test i ≡ true) → count_by test (range_with_len a n) ≡ n
count_by-all test a zero passes = omega arith
count_by-all test a (suc n) passes =
    sum_by-cons (λ y. cond (test y) 1 0) a (range_with_len (a + 1) n)
    ∙ omega (arith, cond-true {A = ℕ} (test a) 1 0 (passes a (omega arith) (omega arith)), count_by-all test (a + 1) n (λ i from below. passes i (omega arith) (omega arith)))
