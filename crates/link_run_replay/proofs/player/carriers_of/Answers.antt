use Rattle.std.proofs.Common.{◌<◌, subst, arith, length}
use Rattle.plan_checker.specs.Rules.{IsGood}
use Rattle.plan_checker.specs.Rules.Rule.{Counts}
use Rattle.link_run_replay.proofs.player.carriers_of.Goals as goal

pub overflow_cast-result : goal.overflow_cast-result
overflow_cast-result c =
    let counts = c.plan.ensures.good Counts 0 (omega arith) in
    let few = counts.few_carriers in
    let is = c.len.ensures in
    omega (arith, few, is)
