use Rattle.std.proofs.Common.{◌≡◌, count_by, below_more}
use Rattle.plan_checker.specs.Flows.{lists}
use Rattle.plan_checker.proofs.flows.list_each_once.Goals as goal

pub loop-carrier-preserved : goal.loop-carrier-preserved
loop-carrier-preserved c =
    below_more (λ k. count_by (lists k) c.args.flows.now ≡ 1) _ c.loop-carrier.invariant (cc)
