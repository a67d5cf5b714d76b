use Rattle.std.proofs.Common.{◌≡◌}
use Rattle.link_receiver_tests.proofs.tests.played.Given as goal

-- the session is of this run, at this tick
abbrev pub invariant-loop : goal.invariant-loop
invariant-loop g l = (l.session.plan ≡ l.checked) × (l.session.frames ≡ l.frames) × (l.session.tick ≡ l.counter)
