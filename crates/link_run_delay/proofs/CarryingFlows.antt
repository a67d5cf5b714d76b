-- The flow that carries a carrier of a good plan.
use Rattle.std.proofs.Common.{◌≡◌, ℕ, zero, suc, ◌+◌, ◌<◌, ◌≤◌, Bool, true, false, IsTrue, List, [], ◌∷◌, length, get_or, Contains, Some, cond, count_by, eqb, refl, ap, ◌∙◌, subst, arith, inl, inr}
use Rattle.std.specs.List.{find}
use Rattle.std.proofs.lemmas.Bool.{cases_Bool, cond-false, cond-true, eqb-true}
use Rattle.std.proofs.lemmas.List.Folds.{Any-from_list_any}
use Rattle.std.proofs.lemmas.List.Sums.{sum_by-cons}
use Rattle.carrier_plan.specs.declared.plan.Flow.{Flow}
use Rattle.carrier_plan.specs.declared.plan.Plan.{Plan}
use Rattle.plan_checker.specs.Flows.{lists}
use Rattle.plan_checker.specs.Rules.{IsGood}
use Rattle.plan_checker.specs.Rules.Rule.{SharedOut}

-- ---- the only item that passes a test

module _ {X : Type 0} (test : X → Bool) where
  count_by-passes : (x : X) (xs : List X) → test x ≡ true → count_by test (x ∷ xs) ≡ 1 + count_by test xs
  count_by-passes x xs passes = sum_by-cons (λ y. cond (test y) 1 0) x xs ∙ ap (λ n. n + count_by test xs) (cond-true {A = ℕ} (test x) 1 0 passes)

  count_by-fails : (x : X) (xs : List X) → test x ≡ false → count_by test (x ∷ xs) ≡ count_by test xs
  count_by-fails x xs fails = sum_by-cons (λ y. cond (test y) 1 0) x xs ∙ ap (λ n. n + count_by test xs) (cond-false {A = ℕ} (test x) 1 0 fails) ∙ omega arith

  count_by-some : (xs : List X) (k : ℕ) (x : X) → k < length xs → get_or xs k x ≡ x → test x ≡ true → 1 ≤ count_by test xs
  count_by-some [] k x lt here passes = absurd (omega arith)
  count_by-some (y ∷ ys) zero x lt here passes = let more = count_by-passes y ys (ap test here ∙ passes) in omega arith
  count_by-some (y ∷ ys) (suc k) x lt here passes =
      let rest = count_by-some ys k x (omega arith) here passes in
      elim (cases_Bool (test y)) [
        | inl first ↦ let more = count_by-passes y ys first in omega arith
        | inr other ↦ let same = count_by-fails y ys other in omega arith
      ]

  -- it is found
  find-only : (xs : List X) (k : ℕ) (x : X) → k < length xs → get_or xs k x ≡ x → test x ≡ true → count_by test xs ≡ 1 → find test xs ≡ Some x
  find-only [] k x lt here passes one = absurd (omega arith)
  find-only (y ∷ ys) zero x lt here passes one = cond-true (test y) (Some y) (find test ys) (ap test here ∙ passes) ∙ ap Some here
  find-only (y ∷ ys) (suc k) x lt here passes one =
      elim (cases_Bool (test y)) [
        | inl first ↦
            let more = count_by-passes y ys first in
            let rest = count_by-some ys k x (omega arith) here passes in
            absurd (omega arith)
        | inr other ↦
            let same = count_by-fails y ys other in
            cond-false (test y) (Some y) (find test ys) other ∙ find-only ys k x (omega arith) here passes (omega arith)
      ]

  -- an item passes where the count is not 0
  found-some : (xs : List X) → 1 ≤ count_by test xs → (x : X) × Contains xs x × (test x ≡ true)
  found-some [] some = absurd (omega arith)
  found-some (y ∷ ys) some =
      elim (cases_Bool (test y)) [
        | inl first ↦ (y, (0, omega arith, refl), first)
        | inr other ↦
            let same = count_by-fails y ys other in
            let found = found-some ys (omega arith) in
            (found.0, (suc found.1.0, omega (arith, found.1.1), found.1.2), found.2)
      ]

-- ---- flows

-- a flow that lists a carrier is found by it
pub find-lists : (p : Plan) (f : Flow) (c : ℕ) → IsGood p → c < length p.carriers → Contains p.flows f → IsTrue (lists c f) → find (lists c) p.flows ≡ Some f
find-lists p f c good lt listed passes =
    let shared = good SharedOut 0 (omega arith) in
    find-only (lists c) p.flows listed.0 f listed.1 listed.2 passes (shared.one_flow c lt)

-- and its list contains the carrier's number
pub contains-lists : (f : Flow) (c : ℕ) → IsTrue (lists c f) → Contains f.carriers c
contains-lists f c passes =
    let found = Any-from_list_any (λ number. eqb number c) f.carriers passes in
    let is : found.1 ≡ c = eqb-true found.1 c found.4 in
    subst (Contains f.carriers) is (found.0, found.2, found.3)

-- a good plan has one flow with control, and it is found
pub record HasControlFlow (p : Plan) : Type 0 where
  pub flow : Flow
  pub listed : Contains p.flows flow
  pub control : IsTrue flow.control
  pub found : find (λ (f : Flow). f.control) p.flows ≡ Some flow

pub control_flow : (p : Plan) → IsGood p → HasControlFlow p
control_flow p good =
    let control : Flow → Bool = λ (f : Flow). f.control in
    let one : count_by control p.flows ≡ 1 = (good SharedOut 0 (omega arith)).one_control in
    let some = found-some control p.flows (omega arith) in
    record { flow = some.0; listed = some.1; control = some.2; found = find-only control p.flows some.1.0 some.0 some.1.1 some.1.2 some.2 one }
