use Rattle.std.proofs.Common.{length, ap, arith}
use Rattle.plan_checker.proofs.flow_rules.wrong_playout.Goals as goal

pub returns : goal.returns
returns c = λ i lt. c.loop-i.invariant i (let e = ap length c.as_slice-flow-items.ensures in omega arith)
