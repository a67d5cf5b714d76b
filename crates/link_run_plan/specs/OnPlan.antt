-- A call that goes on by a plan which meets the rules. The plan's file is read whole; a file that is no plan, and a plan
-- that fails a rule, are answered. This is the project's own.
use Rattle.std.specs.Prelude.{ℕ, List, Result, Ok, Err}
use Rattle.link_base.specs.Shelf.{Files}
use Rattle.carrier_plan.specs.PlanOf.{plan_of}
use Rattle.carrier_plan.specs.declared.plan.Plan.{Plan}
use Rattle.carrier_plan.specs.declared.fault.PlanText as fault
use Rattle.plan_checker.specs.Verdict.{Verdict, verdict_of}
use Rattle.plan_checker.specs.Verdict.Verdict.{Good, Fails}
use Rattle.link_run_feed.specs.declared.status.Status.TheVariants.{No, PlanText}
use Rattle.link_run_feed.specs.Course.{Course, says, on_file}
use Rattle.link_run_plan.specs.Texts.{no_text, fault_text}

-- a plan that meets the rules goes on, and any other is answered by its first failure
abbrev pub by_verdict : Verdict → Course → Course
by_verdict Good rest = rest
by_verdict (Fails rule item) rest = says (No rule item) (no_text rule item)

-- by what the octets of a file are
abbrev pub by_plan : Result Plan fault.PlanText → (Plan → Files → Course) → Files → Course
by_plan (Ok p) rest held = by_verdict (verdict_of p) (rest p held)
by_plan (Err fault) rest held = says (PlanText fault) (fault_text fault)

abbrev pub by_octets : (Plan → Files → Course) → List ℕ → Files → Course
by_octets rest octets held = by_plan (plan_of octets) rest held

-- a call that reads the plan of this name, and goes on by it where it meets the rules
unfoldable pub on_plan : List ℕ → (Plan → Files → Course) → Files → Course
on_plan name rest held = on_file name (by_octets rest) held
