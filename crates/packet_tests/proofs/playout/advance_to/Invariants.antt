use Rattle.std.proofs.Common.{◌≡◌, ◌≤◌}
use Rattle.packet_tests.proofs.playout.advance_to.Given as goal

abbrev pub invariant-loop-now : goal.invariant-loop-now
invariant-loop-now l = (l.playout.window ≡ l.initial.playout.window) × (l.playout.tick ≡ l._now) × (l.initial.playout.tick ≤ l._now)
