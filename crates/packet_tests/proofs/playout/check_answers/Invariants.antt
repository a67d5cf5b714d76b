use Rattle.std.proofs.Common.{◌≡◌}
use Rattle.packet_tests.proofs.playout.check_answers.Given as goal

abbrev pub invariant-loop-tick : goal.invariant-loop-tick
invariant-loop-tick g l = l.playout.window ≡ l.fn.window
