-- The octets at the places of a channel in a control word, which are its first.
use Rattle.std.proofs.Common.{◌≡◌, ℕ, zero, suc, ◌+◌, ◌-◌, ◌%◌, ◌==◌, ◌<◌, ◌≤◌, nat_lt, nat_le, Bool, true, false, cond, if◌then◌else◌, List, [], ◌∷◌, ◌++◌, length, take, drop, get_or, refl, sym, ◌∙◌, ap, arith, ⊎_elim}
use Rattle.std.specs.List.{flat_map, range_with_len}
use Rattle.std.proofs.lemmas.Bool.{cases_lt, lt-ltb, le-ltb, leb-true, ne_eqb, and_parts}
use Rattle.std.proofs.Math.Seq.{drop-cons}
use Rattle.control_words.specs.Places.{is_slow_place, is_fast_place}

-- ---- the places of a word, of which the first belong to a channel

unfoldable pub pick : (ℕ → Bool) → List ℕ → ℕ → ℕ → List ℕ
pick is control at y = if is y then get_or control (at + y) 0 ∷ [] else []

pick_by : (is : ℕ → Bool) (control : List ℕ) (at y : ℕ) (b : Bool) → is y ≡ b → pick is control at y ≡ cond b (get_or control (at + y) 0 ∷ []) []
unfolding pick
pick_by is control at y b e = ap (λ c. cond c (get_or control (at + y) 0 ∷ []) []) e

pub fronts_from : (is : ℕ → Bool) (control : List ℕ) (at n k m : ℕ) → n ≤ k + m → ((y : ℕ) → y < k + m → is y ≡ nat_lt y n) → at + (k + m) ≤ length control
    → flat_map (pick is control at) (range_with_len k m) ≡ take (n - k) (drop (at + k) control)
fronts_from is control at n k zero few first long = ap (λ i. take i (drop (at + k) control)) (let none : 0 ≡ n - k = omega arith in none)
fronts_from is control at n k (suc m) few first long =
    let rest = fronts_from is control at n (k + 1) m (omega arith) (λ y lt. first y (omega arith)) (omega arith) in
    ⊎_elim
    (λ (inside : k < n).
    let on : is k ≡ true = first k (omega arith) ∙ lt-ltb k n inside in
    let here : k + 1 ≡ suc k = omega arith in
    let left : n - k ≡ suc (n - (k + 1)) = omega arith in
    let next : at + (k + 1) ≡ suc (at + k) = omega arith in
    let place : at + k < length control = omega arith in
    ap (λ t. t ++ flat_map (pick is control at) (range_with_len (k + 1) m)) (pick_by is control at k true on)
    ∙ ap (λ t. get_or control (at + k) 0 ∷ t) (rest ∙ ap (λ i. take (n - (k + 1)) (drop i control)) next)
    ∙ sym (ap (λ i. take i (drop (at + k) control)) left ∙ ap (take (suc (n - (k + 1)))) (drop-cons control (at + k) 0 place)))
    (λ (past : n ≤ k).
    let off : is k ≡ false = first k (omega arith) ∙ le-ltb k n past in
    let none : n - (k + 1) ≡ 0 = omega arith in
    let none_here : 0 ≡ n - k = omega arith in
    ap (λ t. t ++ flat_map (pick is control at) (range_with_len (k + 1) m)) (pick_by is control at k false off)
    ∙ rest ∙ ap (λ i. take i (drop (at + (k + 1)) control)) none ∙ ap (λ i. take i (drop (at + k) control)) none_here)
    (cases_lt k n)

-- ---- a word of the fast channel has no place of the slow one

cond_none : (b x : Bool) → x ≡ false → cond b false x ≡ false
cond_none true x e = refl
cond_none false x e = e

pub not_slow : (code x y : ℕ) → 20 ≤ x % 64 → is_slow_place code x y ≡ false
unfolding is_slow_place
not_slow code x y h =
    let one : (x == 1) ≡ false = ne_eqb x 1 (λ e. omega (arith, e, h)) in
    let two : (x == 65) ≡ false = ne_eqb x 65 (λ e. omega (arith, e, h)) in
    let three : (x == 129) ≡ false = ne_eqb x 129 (λ e. omega (arith, e, h)) in
    let four : (x == 193) ≡ false = ne_eqb x 193 (λ e. omega (arith, e, h)) in
    rw (one, two, three, four)
    (cond_none (code == 1) _ (cond_none (code == 2) _ (cond_none (code == 3) _ (cond_none (code == 4) _ (cond_none (code == 5) _ (cond_none (code == 6) _ refl))))))

pub slow_none : (code pointer x y : ℕ) → is_fast_place pointer x ≡ true → is_slow_place code x y ≡ nat_lt y 0
slow_none code pointer x y h =
    let parts = and_parts (nat_le 20 pointer) (nat_le pointer (x % 64)) h in
    not_slow code x y (omega (arith, leb-true 20 pointer parts.0, leb-true pointer (x % 64) parts.1)) ∙ sym (le-ltb y 0 (omega arith))
