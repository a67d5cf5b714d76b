-- Ascending lists, and how many numbers have a property.
use Rattle.std.proofs.Common.{◌≡◌, ℕ, ◌+◌, ◌-◌, ◌<◌, ◌≤◌, zero, suc, List, [], ◌∷◌, length, get_or, All, Contains, arith, sym, subst, ◌∙◌}
use Rattle.std.specs.List.{range_with_len}
use Rattle.std.specs.List.Sorted.{IsStrictlyIncreasing}
use Rattle.std.proofs.lemmas.List.{get_or_default, same_lists}
use Rattle.std.proofs.lemmas.List.FromFn.{length-range_with_len, get_or-range_with_len}
use Rattle.link_base.specs.Count.{HasCount}

ascending-tail : (x : ℕ) (xs : List ℕ) → IsStrictlyIncreasing (x ∷ xs) → IsStrictlyIncreasing xs
ascending-tail x xs h k lt =
    let next : suc k + 1 ≡ suc (k + 1) = omega arith in
    let P : ℕ → Type 0 = λ n. get_or xs k 0 < get_or (x ∷ xs) n 0 in
    subst P next (h (suc k) (omega arith))

-- the numbers after the first are above it
pub above_first : (x : ℕ) (xs : List ℕ) → IsStrictlyIncreasing (x ∷ xs) → (k : ℕ) → k < length xs → x < get_or xs k 0
above_first x xs h zero lt = h 0 (omega arith)
above_first x xs h (suc k) lt =
    let before = above_first x xs h k (omega arith) in
    let next : k + 1 ≡ suc k = omega arith in
    let P : ℕ → Type 0 = λ n. get_or xs k 0 < get_or xs n 0 in
    let step = subst P next (ascending-tail x xs h k (omega arith)) in
    omega arith

-- an ascending list of numbers from a up to below b is no longer than those are many
pub length-ascending : (xs : List ℕ) (a b : ℕ) → IsStrictlyIncreasing xs → ((k : ℕ) → k < length xs → a ≤ get_or xs k 0) → ((k : ℕ) → k < length xs → get_or xs k 0 < b) → length xs ≤ b - a
length-ascending [] a b up low high = omega arith
length-ascending (x ∷ xs) a b up low high =
    let here : a ≤ x = low 0 (omega arith) in
    let there : x < b = high 0 (omega arith) in
    let rest = length-ascending xs (x + 1) b (ascending-tail x xs up) (λ k lt. let more = above_first x xs up k lt in omega arith) (λ k lt. high (suc k) (omega arith)) in
    omega arith

-- an ascending list of numbers below n has n of them at most
pub length-ascending_below : (xs : List ℕ) (n : ℕ) → IsStrictlyIncreasing xs → All (λ x. x < n) xs → length xs ≤ n
length-ascending_below xs n up below =
    let bound = length-ascending xs 0 n up (λ k lt. omega arith) (λ k lt. below k 0 lt) in
    omega arith

pub range-ascending : (a n : ℕ) → IsStrictlyIncreasing (range_with_len a n)
range-ascending a n k lt =
    let long = length-range_with_len a n in
    let this = get_or-range_with_len a n k 0 (omega arith) in
    let next = get_or-range_with_len a n (k + 1) 0 (omega arith) in
    omega arith

pub range-contains : (a n i : ℕ) → a ≤ i → i < a + n → Contains (range_with_len a n) i
range-contains a n i low high =
    let long = length-range_with_len a n in
    let at : get_or (range_with_len a n) (i - a) i ≡ i = get_or-range_with_len a n (i - a) i (omega arith) ∙ (let back : a + (i - a) ≡ i = omega arith in back) in
    (i - a, omega arith, at)

pub range-contained : (a n i : ℕ) → Contains (range_with_len a n) i → (a ≤ i) × (i < a + n)
range-contained a n i h =
    let long = length-range_with_len a n in
    let lt : h.0 < n = omega (arith, h.1) in
    let at : i ≡ a + h.0 = sym h.2 ∙ get_or-range_with_len a n h.0 i lt in
    (omega arith, omega arith)

-- the numbers from a on, n of them, are n numbers
pub HasCount-range : (P : ℕ → Type 0) (a n : ℕ) → ((i : ℕ) → P i → (a ≤ i) × (i < a + n)) → ((i : ℕ) → a ≤ i → i < a + n → P i) → HasCount P n
HasCount-range P a n within has =
    record {
      numbers = range_with_len a n;
      ascending = range-ascending a n;
      counted = length-range_with_len a n;
      exactly = λ i. (λ h. let w = within i h in range-contains a n i w.0 w.1, λ h. let w = range-contained a n i h in has i w.0 w.1);
    }

-- a list that has each place in that place counts them up
pub range-from_places : (xs : List ℕ) (n : ℕ) → length xs ≡ n → ((k : ℕ) → k < n → get_or xs k 0 ≡ k) → xs ≡ range_with_len 0 n
range-from_places xs n long at =
    same_lists xs (range_with_len 0 n) (long ∙ sym (length-range_with_len 0 n)) (λ k d lt.
    let lt' : k < n = omega arith in
    get_or_default xs k d 0 lt ∙ (at k lt' ∙ sym (get_or-range_with_len 0 n k d lt' ∙ (let z : 0 + k ≡ k = omega arith in z))))

pub places-from_range : (xs : List ℕ) (n : ℕ) → xs ≡ range_with_len 0 n → (length xs ≡ n) × ((k : ℕ) → k < n → get_or xs k 0 ≡ k)
places-from_range xs n e =
    let P : List ℕ → Type 0 = λ ys. (length ys ≡ n) × ((k : ℕ) → k < n → get_or ys k 0 ≡ k) in
    subst P (sym e) (length-range_with_len 0 n, λ k lt. get_or-range_with_len 0 n k 0 lt ∙ (let z : 0 + k ≡ k = omega arith in z))
