use Rattle.std.proofs.Common.{sym, subst}
use Rattle.std.proofs.lemmas.Bool.{false≢true}
use Rattle.carrier_plan.specs.declared.plan.Plan.{Plan}
use Rattle.plan_checker.specs.Rules.{IsGood}
use Rattle.link_drill.proofs.GoodPlan.{drill_plan-good}
use Rattle.link_drill.proofs.run_plan.checked_plan.Goals as goal

pub unreachable-requires : goal.unreachable-requires
unreachable-requires c =
    let good = subst (λ (p : Plan). IsGood p) (sym c.in_ok-plan.ensures) (drill_plan-good c.args.option c.requires.some c.requires.known) in
    false≢true (c.in-Err.ensures.exact.1 good)
