use Rattle.std.proofs.Common.{◌≡◌}
use Rattle.link_receiver_tests.proofs.tests.arrive_all.Given as goal

-- the tick stays
abbrev pub invariant-loop-tick : goal.invariant-loop-tick
invariant-loop-tick g l =
    (l.session.plan ≡ l.initial.session.plan) × (l.session.frames ≡ l.initial.session.frames) × (l.session.tick ≡ l.initial.session.tick)
