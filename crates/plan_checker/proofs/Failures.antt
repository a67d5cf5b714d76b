-- The first failure, from what the rules before it say.
use Rattle.std.proofs.Common.{◌≡◌, ℕ, ◌+◌, ◌<◌, ◌^◌, length, ap, arith, cond, eqb, inl, inr, refl, subst, sym, ◌∙◌}
use Rattle.std.proofs.lemmas.Bool.{cases_lt}
use Rattle.carrier_plan.specs.declared.plan.Plan.{Plan}
use Rattle.plan_checker.specs.Rules.{Rule, number_of, item_count, Holds, IsMet, IsMetBelow, IsGood, FailsFirstAt, IsFirstFailure}
use Rattle.plan_checker.specs.Rules.Rule.{LineOption, Counts, WholeFrames, SampleRate, SampleWidth, ContainerSize, ContainerEnd, SeparateBits, SharedOut, PayloadSize, ArrivalWindow, PlayedInTime, SequenceNumbers, BufferRoom}

-- the rule with a number
abbrev rule_of : ℕ → Rule
rule_of n =
    cond (eqb n 1) LineOption (
    cond (eqb n 2) Counts (
    cond (eqb n 3) WholeFrames (
    cond (eqb n 4) SampleRate (
    cond (eqb n 5) SampleWidth (
    cond (eqb n 6) ContainerSize (
    cond (eqb n 7) ContainerEnd (
    cond (eqb n 8) SeparateBits (
    cond (eqb n 9) SharedOut (
    cond (eqb n 10) PayloadSize (
    cond (eqb n 11) ArrivalWindow (
    cond (eqb n 12) PlayedInTime (
    cond (eqb n 13) SequenceNumbers BufferRoom))))))))))))

rule_of-number_of : (r : Rule) → rule_of (number_of r) ≡ r
rule_of-number_of LineOption = refl
rule_of-number_of Counts = refl
rule_of-number_of WholeFrames = refl
rule_of-number_of SampleRate = refl
rule_of-number_of SampleWidth = refl
rule_of-number_of ContainerSize = refl
rule_of-number_of ContainerEnd = refl
rule_of-number_of SeparateBits = refl
rule_of-number_of SharedOut = refl
rule_of-number_of PayloadSize = refl
rule_of-number_of ArrivalWindow = refl
rule_of-number_of PlayedInTime = refl
rule_of-number_of SequenceNumbers = refl
rule_of-number_of BufferRoom = refl

pub same_rule : (r s : Rule) → number_of r ≡ number_of s → r ≡ s
same_rule r s e = sym (rule_of-number_of r) ∙ (ap rule_of e ∙ rule_of-number_of s)

number_of-below : (r : Rule) → number_of r < 15
number_of-below LineOption = omega arith
number_of-below Counts = omega arith
number_of-below WholeFrames = omega arith
number_of-below SampleRate = omega arith
number_of-below SampleWidth = omega arith
number_of-below ContainerSize = omega arith
number_of-below ContainerEnd = omega arith
number_of-below SeparateBits = omega arith
number_of-below SharedOut = omega arith
number_of-below PayloadSize = omega arith
number_of-below ArrivalWindow = omega arith
number_of-below PlayedInTime = omega arith
number_of-below SequenceNumbers = omega arith
number_of-below BufferRoom = omega arith

number_of-above : (r : Rule) → 0 < number_of r
number_of-above LineOption = omega arith
number_of-above Counts = omega arith
number_of-above WholeFrames = omega arith
number_of-above SampleRate = omega arith
number_of-above SampleWidth = omega arith
number_of-above ContainerSize = omega arith
number_of-above ContainerEnd = omega arith
number_of-above SeparateBits = omega arith
number_of-above SharedOut = omega arith
number_of-above PayloadSize = omega arith
number_of-above ArrivalWindow = omega arith
number_of-above PlayedInTime = omega arith
number_of-above SequenceNumbers = omega arith
number_of-above BufferRoom = omega arith

-- no rule has a number below 1
pub met_below_1 : (p : Plan) → IsMetBelow p 1
met_below_1 p r lt = absurd (let above = number_of-above r in omega arith)

-- one rule more
pub met_below_next : (p : Plan) (r : Rule) → IsMetBelow p (number_of r) → IsMet p r → IsMetBelow p (number_of r + 1)
met_below_next p r below here s lt =
    elim (cases_lt (number_of s) (number_of r)) [
      | inl less ↦ below s less
      | inr more ↦
          let same : number_of r ≡ number_of s = omega arith in
          subst (IsMet p) (same_rule r s same) here
    ]

-- all rules
pub good_from_met : (p : Plan) → IsMetBelow p 15 → IsGood p
good_from_met p met r = met r (number_of-below r)

-- a rule that speaks of the plan as a whole has item 0
pub fails_at_0 : (p : Plan) (r : Rule) → 0 < item_count p r → ¬ Holds p r 0 → FailsFirstAt p r 0
fails_at_0 p r some h = record { in_range = some; fails = h; before = λ j lt. absurd (omega arith) }

pub met_at_0 : (p : Plan) (r : Rule) → item_count p r ≡ 1 → Holds p r 0 → IsMet p r
met_at_0 p r one h i lt = let zero_item : 0 ≡ i = omega arith in subst (Holds p r) zero_item h

pub first_at : (p : Plan) (r : Rule) (i n j : ℕ) → FailsFirstAt p r i → IsMetBelow p (number_of r) → n ≡ number_of r → j ≡ i → IsFirstFailure p n j
first_at p r i n j h met is_number is_item =
    record {
      rule = r;
      numbered = sym is_number;
      fails = subst (λ k. FailsFirstAt p r k) (sym is_item) h;
      before = subst (λ k. IsMetBelow p k) (sym is_number) met;
    }

-- the place of a carrier or a flow fits a u32
pub carrier_place : (p : Plan) (i : ℕ) → IsMetBelow p 4 → i < length p.carriers → i < 2 ^ 32
carrier_place p i met lt = let few = (met Counts (omega arith) 0 (omega arith)).few_carriers in omega arith

pub flow_place : (p : Plan) (i : ℕ) → IsMetBelow p 9 → i < length p.flows → i < 2 ^ 32
flow_place p i met lt = let few = (met Counts (omega arith) 0 (omega arith)).few_flows in omega arith
