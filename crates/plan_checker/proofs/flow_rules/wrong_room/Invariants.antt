use Rattle.std.proofs.Common.{ℕ, ◌<◌}
use Rattle.plan_checker.specs.Rules.{Holds}
use Rattle.plan_checker.specs.Rules.Rule.{BufferRoom}
use Rattle.plan_checker.proofs.flow_rules.wrong_room.Given as goal

-- no flow before this one fails
abbrev pub invariant-loop-i : goal.invariant-loop-i
invariant-loop-i l = (k : ℕ) → k < l.i → Holds l.plan BufferRoom k
