use Rattle.std.proofs.Common.{ℕ, ◌<◌}
use Rattle.plan_checker.specs.Rules.{Holds}
use Rattle.plan_checker.specs.Rules.Rule.{SeparateBits}
use Rattle.plan_checker.proofs.rules.shared_bits.Given as goal

-- no carrier before this one fails
abbrev pub invariant-loop-i : goal.invariant-loop-i
invariant-loop-i l = (k : ℕ) → k < l.i → Holds l.plan SeparateBits k
