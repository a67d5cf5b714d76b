-- The plain program gives the first failure, and nothing else.
use Rattle.std.proofs.Common.{◌≡◌, ◌⊎◌, ℕ, ◌+◌, ◌<◌, Bool, true, false, zero, suc, Option, Some, None, List, [], ◌∷◌, arith, refl, sym, subst, ◌∙◌, ap, cond, Decides, inl, inr}
use Rattle.std.proofs.lemmas.Bool.{cases_lt, cases_order, false≢true}
use Rattle.std.specs.Option.{option_or}
use Rattle.carrier_plan.specs.declared.plan.Plan.{Plan}
use Rattle.plan_checker.specs.Rules.{Rule, Holds, number_of, IsMet, IsMetBelow, IsGood, FailsFirstAt, IsFirstFailure, item_count}
use Rattle.plan_checker.specs.Rules.Rule.{LineOption, Counts, WholeFrames, SampleRate, SampleWidth, ContainerSize, ContainerEnd, SeparateBits, SharedOut, PayloadSize, ArrivalWindow, PlayedInTime, SequenceNumbers, BufferRoom}
use Rattle.plan_checker.specs.Verdict.{Verdict, first_false, failing_or, holds, verdict_by, verdict_of}
use Rattle.plan_checker.specs.Verdict.Verdict.{Good, Fails}
use Rattle.plan_checker.specs.Laws.{VerdictIsComputed, FailureIsUnique}
use Rattle.plan_checker.proofs.Decisions.{Decides-holds}
use Rattle.plan_checker.proofs.Failures.{good_from_met, met_below_1, met_below_next, same_rule}

-- the least number at which a test does not pass, or that there is none
abbrev IsFirstFalse : (ℕ → Bool) → ℕ → Option ℕ → Type 0
IsFirstFalse test n None = (k : ℕ) → k < n → test k ≡ true
IsFirstFalse test n (Some i) = (i < n) × (test i ≡ false) × ((k : ℕ) → k < i → test k ≡ true)

first_false_more : (test : ℕ → Bool) (n : ℕ) (found : Option ℕ) (b : Bool) → IsFirstFalse test n found → test n ≡ b → IsFirstFalse test (suc n) (option_or found (cond b None (Some n)))
first_false_more test n (Some i) b h e = (omega (arith, h.0), h.1, h.2)
first_false_more test n None true h e =
    λ k lt. elim (cases_lt k n) [
      | inl less ↦ h k less
      | inr more ↦ let same : n ≡ k = omega arith in subst (λ j. test j ≡ true) same e
    ]
first_false_more test n None false h e = (omega arith, e, h)

first_false-is : (test : ℕ → Bool) (n : ℕ) → IsFirstFalse test n (first_false test n)
first_false-is test zero = λ k lt. absurd (omega arith)
first_false-is test (suc n) = first_false_more test n (first_false test n) (test n) (first_false-is test n) refl

-- what a verdict says of the plan
abbrev Outcome : Plan → Verdict → Type 0
Outcome p v = (IsGood p × (v ≡ Good)) ⊎ ((n : ℕ) × (i : ℕ) × IsFirstFailure p n i × (v ≡ Fails n i))

outcome_by : (p : Plan) (r : Rule) (later : Verdict) (found : Option ℕ) → IsMetBelow p (number_of r) → IsFirstFalse (holds p r) (item_count p r) found → (IsMet p r → Outcome p later) → Outcome p (failing_or (number_of r) found later)
outcome_by p r later None below h rest = rest (λ i lt. (Decides-holds p r below i lt).0 (h i lt))
outcome_by p r later (Some i) below h rest =
    inr (
      number_of r,
      i,
      record {
        rule = r;
        numbered = refl;
        fails = record {
          in_range = h.0;
          fails = λ yes. false≢true (sym h.1 ∙ (Decides-holds p r below i h.0).1 yes);
          before = λ k lt. (Decides-holds p r below k (omega (arith, h.0))).0 (h.2 k lt);
        };
        before = below;
      },
      refl,
    )

-- one rule, and those after it
outcome_of_rule : (p : Plan) (r : Rule) (rs : List Rule) → IsMetBelow p (number_of r) → (IsMetBelow p (number_of r + 1) → Outcome p (verdict_by p rs)) → Outcome p (verdict_by p (r ∷ rs))
outcome_of_rule p r rs below rest =
    outcome_by p r (verdict_by p rs) (first_false (holds p r) (item_count p r)) below (first_false-is (holds p r) (item_count p r)) (λ met. rest (met_below_next p r below met))

-- the rules from each number on
abbrev from_14 : List Rule
from_14 = BufferRoom ∷ []

abbrev from_13 : List Rule
from_13 = SequenceNumbers ∷ from_14

abbrev from_12 : List Rule
from_12 = PlayedInTime ∷ from_13

abbrev from_11 : List Rule
from_11 = ArrivalWindow ∷ from_12

abbrev from_10 : List Rule
from_10 = PayloadSize ∷ from_11

abbrev from_9 : List Rule
from_9 = SharedOut ∷ from_10

abbrev from_8 : List Rule
from_8 = SeparateBits ∷ from_9

abbrev from_7 : List Rule
from_7 = ContainerEnd ∷ from_8

abbrev from_6 : List Rule
from_6 = ContainerSize ∷ from_7

abbrev from_5 : List Rule
from_5 = SampleWidth ∷ from_6

abbrev from_4 : List Rule
from_4 = SampleRate ∷ from_5

abbrev from_3 : List Rule
from_3 = WholeFrames ∷ from_4

abbrev from_2 : List Rule
from_2 = Counts ∷ from_3

abbrev from_1 : List Rule
from_1 = LineOption ∷ from_2

outcome : (p : Plan) → Outcome p (verdict_of p)
unfolding verdict_of
outcome p =
    outcome_of_rule p LineOption from_2 (met_below_1 p) (λ m2.
    outcome_of_rule p Counts from_3 m2 (λ m3.
    outcome_of_rule p WholeFrames from_4 m3 (λ m4.
    outcome_of_rule p SampleRate from_5 m4 (λ m5.
    outcome_of_rule p SampleWidth from_6 m5 (λ m6.
    outcome_of_rule p ContainerSize from_7 m6 (λ m7.
    outcome_of_rule p ContainerEnd from_8 m7 (λ m8.
    outcome_of_rule p SeparateBits from_9 m8 (λ m9.
    outcome_of_rule p SharedOut from_10 m9 (λ m10.
    outcome_of_rule p PayloadSize from_11 m10 (λ m11.
    outcome_of_rule p ArrivalWindow from_12 m11 (λ m12.
    outcome_of_rule p PlayedInTime from_13 m12 (λ m13.
    outcome_of_rule p SequenceNumbers from_14 m13 (λ m14.
    outcome_of_rule p BufferRoom [] m14 (λ m15. inl (good_from_met p m15, refl)))))))))))))))

-- a good plan has no first failure
not_good : (p : Plan) (n i : ℕ) → IsFirstFailure p n i → ¬ IsGood p
not_good p n i f good = f.fails.fails (good f.rule i f.fails.in_range)

-- a rule that fails is met neither below a later number nor before a later item
not_before : (p : Plan) (n i m j : ℕ) → IsFirstFailure p n i → IsFirstFailure p m j → ¬ (n < m)
not_before p n i m j f g less = f.fails.fails (g.before f.rule (omega (arith, f.numbered)) i f.fails.in_range)

not_before_item : (p : Plan) (r s : Rule) (i j : ℕ) → r ≡ s → FailsFirstAt p r i → FailsFirstAt p s j → ¬ (i < j)
not_before_item p r s i j same f g less = f.fails (subst (λ x. Holds p x i) (sym same) (g.before i less))

one_number : (n m : ℕ) → ¬ (n < m) → ¬ (m < n) → n ≡ m
one_number n m a b = elim (cases_order n m) [ inl same ↦ same | inr apart ↦ elim apart [ inl less ↦ absurd (a less) | inr more ↦ absurd (b more) ] ]

one_failure : (p : Plan) (n i m j : ℕ) → IsFirstFailure p n i → IsFirstFailure p m j → (n ≡ m) × (i ≡ j)
one_failure p n i m j f g =
    let numbers : n ≡ m = one_number n m (not_before p n i m j f g) (not_before p m j n i g f) in
    let rules : f.rule ≡ g.rule = same_rule f.rule g.rule (f.numbered ∙ (numbers ∙ sym g.numbered)) in
    (numbers, one_number i j (not_before_item p f.rule g.rule i j rules f.fails g.fails) (not_before_item p g.rule f.rule j i (sym rules) g.fails f.fails))

pub FailureIsUnique-holds : FailureIsUnique
FailureIsUnique-holds = record { none = not_good; one = one_failure }

pub verdict_of-good : (p : Plan) → IsGood p → verdict_of p ≡ Good
verdict_of-good p good =
    elim (outcome p) [ inl h ↦ h.1 | inr h ↦ absurd (not_good p h.0 h.1 h.2 good) ]

pub verdict_of-first_failure : (p : Plan) (n i : ℕ) → IsFirstFailure p n i → verdict_of p ≡ Fails n i
verdict_of-first_failure p n i f =
    elim (outcome p) [
      | inl h ↦ absurd (not_good p n i f h.0)
      | inr h ↦
          let same = one_failure p h.0 h.1 n i h.2 f in
          h.3 ∙ (ap (λ k. Fails k h.1) same.0 ∙ ap (Fails n) same.1)
    ]

good_from_verdict : (p : Plan) → verdict_of p ≡ Good → IsGood p
good_from_verdict p e = elim (outcome p) [ inl h ↦ h.0 | inr h ↦ absurd (let other : Fails h.0 h.1 ≡ Good = sym h.3 ∙ e in cc) ]

failure_from_verdict : (p : Plan) (n i : ℕ) → verdict_of p ≡ Fails n i → IsFirstFailure p n i
failure_from_verdict p n i e =
    elim (outcome p) [
      | inl h ↦ absurd (let other : Good ≡ Fails n i = sym h.1 ∙ e in cc)
      | inr h ↦
          let same : Fails h.0 h.1 ≡ Fails n i = sym h.3 ∙ e in
          let number : h.0 ≡ n = cc in
          let item : h.1 ≡ i = cc in
          subst (λ k. IsFirstFailure p k i) number (subst (IsFirstFailure p h.0) item h.2)
    ]

pub VerdictIsComputed-holds : VerdictIsComputed
VerdictIsComputed-holds =
    record {
      good = λ p. (good_from_verdict p, verdict_of-good p);
      fails = λ p n i. (failure_from_verdict p n i, verdict_of-first_failure p n i);
    }
