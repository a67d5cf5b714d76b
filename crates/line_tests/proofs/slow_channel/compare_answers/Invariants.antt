use Rattle.std.proofs.Common.{◌-◌, ◌≤◌}
use Rattle.line_tests.proofs.slow_channel.compare_answers.Given as goal

abbrev pub invariant-loop-from : goal.invariant-loop-from
invariant-loop-from g l = l.from ≤ 8

abbrev pub decreases-loop-from : goal.decreases-loop-from
decreases-loop-from g l = 8 - l.from
