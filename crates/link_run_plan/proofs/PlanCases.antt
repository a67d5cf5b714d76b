-- What the file of a plan may be, and how a call that goes on by it runs then.
use Rattle.std.proofs.Common.{◌≡◌, ℕ, List, [], refl, ap, ◌∙◌, Option, Some, None, Result, Ok, Err}
use Rattle.link_base.specs.Shelf.{Files}
use Rattle.carrier_plan.specs.PlanOf.{plan_of}
use Rattle.carrier_plan.specs.declared.plan.Plan.{Plan}
use Rattle.carrier_plan.specs.declared.fault.PlanText as fault
use Rattle.plan_checker.specs.Verdict.{Verdict, verdict_of}
use Rattle.plan_checker.specs.Verdict.Verdict.{Good, Fails}
use Rattle.link_run_feed.specs.declared.status.Status.TheVariants.{No, PlanText, ReadFault}
use Rattle.link_run_feed.specs.Course.{Course, says, on_octets}
use Rattle.link_run_plan.specs.OnPlan.{by_verdict, by_plan, by_octets}
use Rattle.link_run_plan.specs.Texts.{no_text, fault_text}

pub data PlanCase (rest : Plan → Files → Course) (held : Files) (found : Option (List ℕ)) (course : Course) : Type 0 where
  is_good : (octets : List ℕ) (p : Plan) → found ≡ Some octets → plan_of octets ≡ Ok p → verdict_of p ≡ Good → course ≡ rest p held → PlanCase rest held found course
  fails : (octets : List ℕ) (p : Plan) (rule item : ℕ) → found ≡ Some octets → plan_of octets ≡ Ok p → verdict_of p ≡ Fails rule item
      → course ≡ says (No rule item) (no_text rule item) → PlanCase rest held found course
  is_none : (why : fault.PlanText) → course ≡ says (PlanText why) (fault_text why) → PlanCase rest held found course
  no_file : course ≡ says ReadFault [] → PlanCase rest held found course

module _ (rest : Plan → Files → Course) (held : Files) where
  module _ (octets : List ℕ) where
    by_judged : (p : Plan) (verdict : Verdict) → plan_of octets ≡ Ok p → verdict_of p ≡ verdict → PlanCase rest held (Some octets) (by_verdict verdict (rest p held))
    by_judged p Good is judged = is_good octets p refl is judged refl
    by_judged p (Fails rule item) is judged = fails octets p rule item refl is judged refl

    by_read : (read : Result Plan fault.PlanText) → plan_of octets ≡ read → PlanCase rest held (Some octets) (by_plan read rest held)
    by_read (Ok p) is = by_judged p (verdict_of p) is refl
    by_read (Err why) is = is_none why refl

  pub plan_case : (found : Option (List ℕ)) → PlanCase rest held found (on_octets (by_octets rest) held found)
  plan_case None = no_file refl
  plan_case (Some octets) = by_read octets (plan_of octets) refl

  -- a plan that meets the rules goes on
  pub good_course : (found : Option (List ℕ)) (octets : List ℕ) (p : Plan) → found ≡ Some octets → plan_of octets ≡ Ok p → verdict_of p ≡ Good → on_octets (by_octets rest) held found ≡ rest p held
  good_course found octets p here is judged =
      ap (on_octets (by_octets rest) held) here ∙ ap (λ read. by_plan read rest held) is ∙ ap (λ verdict. by_verdict verdict (rest p held)) judged
