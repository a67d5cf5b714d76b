-- The greatest K of a list of carriers.
use Rattle.std.proofs.Common.{◌≡◌, ℕ, ◌<◌, ◌≤◌, ◌⊎◌, List, [], ◌∷◌, length, map, max, fold, All, Any, suc, arith, inl, inr, refl}
use Rattle.std.proofs.lemmas.List.Elements.{All-nil, All-cons}
use Rattle.std.proofs.lemmas.Bool.{cases_lt}
use Rattle.carrier_plan.specs.declared.plan.Carrier.{Carrier}

abbrev pub greatest : ℕ → List Carrier → ℕ
greatest a cs = fold max a (map (λ (c : Carrier). c.k) cs)

pub greatest_bounds : (a : ℕ) (cs : List Carrier) → (a ≤ greatest a cs) × All (λ c. c.k ≤ greatest a cs) cs
greatest_bounds a [] = (omega arith, All-nil _)
greatest_bounds a (c ∷ cs) =
    let rest = greatest_bounds (max a c.k) cs in
    (omega arith, All-cons (λ x. x.k ≤ greatest (max a c.k) cs) c cs (omega arith) rest.1)

greatest_none : (c : Carrier) (cs : List Carrier) → greatest 0 (c ∷ cs) ≡ 0 → c.k ≡ greatest 0 (c ∷ cs)
greatest_none c cs e =
    let bound = (greatest_bounds 0 (c ∷ cs)).1 0 c (omega arith) in
    omega arith

pub greatest_reached : (a : ℕ) (cs : List Carrier) → (greatest a cs ≡ a) ⊎ Any (λ c. c.k ≡ greatest a cs) cs
greatest_reached a [] = inl refl
greatest_reached a (c ∷ cs) =
    let most = greatest (max a c.k) cs in
    elim (greatest_reached (max a c.k) cs) [
      | inl e ↦ elim (cases_lt a c.k) [
        | inl less ↦ inr (0, c, omega arith, refl, omega arith)
        | inr more ↦ inl (omega arith)
      ]
      | inr w ↦ inr (suc w.0, w.1, omega arith, w.3, w.4)
    ]

-- of a list that is not empty, it is the K of one of them
pub greatest_reached_some : (cs : List Carrier) → 0 < length cs → Any (λ c. c.k ≡ greatest 0 cs) cs
greatest_reached_some [] some = absurd (omega arith)
greatest_reached_some (c ∷ cs) some =
    elim (greatest_reached 0 (c ∷ cs)) [
      | inl e ↦ (0, c, some, refl, greatest_none c cs e)
      | inr w ↦ w
    ]
