-- Functions that agree on a range.
use Rattle.std.proofs.Common.{◌≡◌, ℕ, zero, suc, ◌+◌, ◌<◌, Bool, ◌||◌, cond, List, ◌∷◌, ◌++◌, map, flat_map, count_by, refl, sym, ap, ◌∙◌, arith}
use Rattle.std.specs.List.{list_any, range_with_len}
use Rattle.std.proofs.lemmas.List.Sums.{sum_by-cons}

-- on two ranges of the same length
pub map-ranges : {X : Type 0} (f g : ℕ → X) (a b n : ℕ) → ((r : ℕ) → r < n → f (a + r) ≡ g (b + r)) → map f (range_with_len a n) ≡ map g (range_with_len b n)
map-ranges f g a b zero each = refl
map-ranges f g a b (suc n) each =
    let first : a ≡ a + 0 = omega arith in
    let other : b + 0 ≡ b = omega arith in
    let head : f a ≡ g b = ap f first ∙ each 0 (omega arith) ∙ ap g other in
    let rest = map-ranges f g (a + 1) (b + 1) n (λ r less.
    let left : a + 1 + r ≡ a + (r + 1) = omega arith in
    let right : b + (r + 1) ≡ b + 1 + r = omega arith in
    ap f left ∙ each (r + 1) (omega arith) ∙ ap g right) in
    ap (λ x. x ∷ map f (range_with_len (a + 1) n)) head ∙ ap (λ xs. g b ∷ xs) rest

pub flat_map-range : {X : Type 0} (f g : ℕ → List X) (a n : ℕ) → ((r : ℕ) → r < n → f (a + r) ≡ g (a + r)) → flat_map f (range_with_len a n) ≡ flat_map g (range_with_len a n)
flat_map-range f g a zero each = refl
flat_map-range f g a (suc n) each =
    let first : a ≡ a + 0 = omega arith in
    let head : f a ≡ g a = ap f first ∙ each 0 (omega arith) ∙ ap g (sym first) in
    let rest = flat_map-range f g (a + 1) n (λ r less. let place : a + 1 + r ≡ a + (r + 1) = omega arith in ap f place ∙ each (r + 1) (omega arith) ∙ ap g (sym place)) in
    ap (λ xs. xs ++ flat_map f (range_with_len (a + 1) n)) head ∙ ap (λ ys. g a ++ ys) rest

pub count_by-range : (f g : ℕ → Bool) (a n : ℕ) → ((r : ℕ) → r < n → f (a + r) ≡ g (a + r)) → count_by f (range_with_len a n) ≡ count_by g (range_with_len a n)
count_by-range f g a zero each = refl
count_by-range f g a (suc n) each =
    let first : a ≡ a + 0 = omega arith in
    let head : f a ≡ g a = ap f first ∙ each 0 (omega arith) ∙ ap g (sym first) in
    let rest = count_by-range f g (a + 1) n (λ r less. let place : a + 1 + r ≡ a + (r + 1) = omega arith in ap f place ∙ each (r + 1) (omega arith) ∙ ap g (sym place)) in
    sum_by-cons (λ x. cond (f x) 1 0) a (range_with_len (a + 1) n)
    ∙ ap (λ b. cond b 1 0 + count_by f (range_with_len (a + 1) n)) head ∙ ap (λ k. cond (g a) 1 0 + k) rest
    ∙ sym (sum_by-cons (λ x. cond (g x) 1 0) a (range_with_len (a + 1) n))

pub list_any-range : (f g : ℕ → Bool) (a n : ℕ) → ((r : ℕ) → r < n → f (a + r) ≡ g (a + r)) → list_any f (range_with_len a n) ≡ list_any g (range_with_len a n)
list_any-range f g a zero each = refl
list_any-range f g a (suc n) each =
    let first : a ≡ a + 0 = omega arith in
    let head : f a ≡ g a = ap f first ∙ each 0 (omega arith) ∙ ap g (sym first) in
    let rest = list_any-range f g (a + 1) n (λ r less. let place : a + 1 + r ≡ a + (r + 1) = omega arith in ap f place ∙ each (r + 1) (omega arith) ∙ ap g (sym place)) in
    ap (λ b. b || list_any f (range_with_len (a + 1) n)) head ∙ ap (λ b. g a || b) rest
