-- The table of groups is held against the definition at each entry, by computing.
use Rattle.std.proofs.Common.{◌≡◌, ℕ, zero, suc, ◌+◌, ◌/◌, ◌^◌, ◌<◌, ◌≤◌, ◌&&◌, ◌==◌, nat_le, Bool, true, false, List, [], ◌∷◌, length, take, get_or, refl, ap, subst, ◌∙◌, arith}
use Rattle.std.proofs.lemmas.Bool.{and_parts, eqb-true, leb-true, false≢true}
use Rattle.std.specs.Int.{w32, to_le_bytes}
use Rattle.link_run_entries.specs.Groups.{group_text, short_digits, three_digits}
use Rattle.link_run_entries.specs.declared.digits.TheConstants.{GROUPS}

same : List ℕ → List ℕ → Bool
same [] [] = true
same [] (y ∷ ys) = false
same (x ∷ xs) [] = false
same (x ∷ xs) (y ∷ ys) = (x == y) && same xs ys

same-true : (xs ys : List ℕ) → same xs ys ≡ true → xs ≡ ys
unfolding same
same-true [] [] h = refl
same-true [] (y ∷ ys) h = absurd (false≢true h)
same-true (x ∷ xs) [] h = absurd (false≢true h)
same-true (x ∷ xs) (y ∷ ys) h =
    let parts = and_parts (x == y) (same xs ys) h in
    ap (λ z. z ∷ xs) (eqb-true x y parts.0) ∙ ap (λ zs. y ∷ zs) (same-true xs ys parts.1)

-- whether an entry has the text of its place
is_entry : ℕ → ℕ → Bool
is_entry n entry = same (take (entry / 2 ^ 24) (to_le_bytes w32 entry)) (group_text n) && nat_le (entry / 2 ^ 24) 3

-- whether a list passes at each place from k on
passes : (ℕ → ℕ → Bool) → ℕ → List ℕ → Bool
passes test k [] = true
passes test k (x ∷ xs) = test k x && passes test (k + 1) xs

passes_at : (test : ℕ → ℕ → Bool) (k : ℕ) (xs : List ℕ) (i : ℕ) → passes test k xs ≡ true → i < length xs → test (k + i) (get_or xs i 0) ≡ true
unfolding passes
passes_at test k [] i h within = absurd (omega arith)
passes_at test k (x ∷ xs) zero h within =
    let e : k + 0 ≡ k = omega arith in
    ap (λ n. test n x) e ∙ (and_parts (test k x) (passes test (k + 1) xs) h).0
passes_at test k (x ∷ xs) (suc i) h within =
    let e : k + suc i ≡ k + 1 + i = omega arith in
    ap (λ n. test n (get_or xs i 0)) e ∙ passes_at test (k + 1) xs i (and_parts (test k x) (passes test (k + 1) xs) h).1 (omega arith)

groups_pass : passes is_entry 0 GROUPS ≡ true
unfolding passes is_entry same group_text short_digits three_digits
groups_pass = refl

groups_size : length GROUPS ≡ 3000
groups_size = refl

entry_passes : (n : ℕ) → n < 3000 → is_entry n (get_or GROUPS n 0) ≡ true
entry_passes n small =
    let e : 0 + n ≡ n = omega arith in
    subst (λ k. is_entry k (get_or GROUPS n 0) ≡ true) e (passes_at is_entry 0 GROUPS n groups_pass (omega (arith, groups_size)))

pub entry_text : (n : ℕ) → n < 3000 → take (get_or GROUPS n 0 / 2 ^ 24) (to_le_bytes w32 (get_or GROUPS n 0)) ≡ group_text n
unfolding is_entry
entry_text n small =
    let entry = get_or GROUPS n 0 in
    same-true (take (entry / 2 ^ 24) (to_le_bytes w32 entry)) (group_text n)
    (and_parts (same (take (entry / 2 ^ 24) (to_le_bytes w32 entry)) (group_text n)) (nat_le (entry / 2 ^ 24) 3) (entry_passes n small)).0

pub entry_count : (n : ℕ) → n < 3000 → get_or GROUPS n 0 / 2 ^ 24 ≤ 3
unfolding is_entry
entry_count n small =
    let entry = get_or GROUPS n 0 in
    leb-true (entry / 2 ^ 24) 3
    (and_parts (same (take (entry / 2 ^ 24) (to_le_bytes w32 entry)) (group_text n)) (nat_le (entry / 2 ^ 24) 3) (entry_passes n small)).1
