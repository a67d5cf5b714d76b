use Rattle.std.proofs.Common.{below_more, arith}
use Rattle.plan_checker.specs.Rules.{Holds}
use Rattle.plan_checker.specs.Rules.Rule.{SeparateBits}
use Rattle.plan_checker.proofs.rules.shared_bits.Goals as goal

pub loop-i-preserved : goal.loop-i-preserved
loop-i-preserved c =
    below_more (Holds c.args.plan.now SeparateBits) _ c.loop-i.invariant (c.is_separate.ensures.0 c.if-not-is_separate.false)

pub returns : goal.returns
returns c = λ i lt. c.loop-i.invariant i (omega arith)
