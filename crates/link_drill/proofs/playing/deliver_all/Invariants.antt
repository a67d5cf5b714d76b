use Rattle.std.proofs.Common.{◌≡◌, ◌++◌, List}
use Rattle.link_base.specs.Record.{Record}
use Rattle.link_receiver.specs.Sessions.{StandsFor}
use Rattle.link_drill.specs.Arrivals.{arrivals_of_first}
use Rattle.link_drill.proofs.playing.deliver_all.Given as goal

-- the first packets arrived at the present tick
abbrev pub invariant-loop-i : goal.invariant-loop-i
invariant-loop-i l =
    (l.session.plan ≡ l.initial.session.plan) × (l.session.frames ≡ l.initial.session.frames) × (l.session.tick ≡ l.initial.session.tick)
    × ((records : List Record) → StandsFor l.initial.session records → StandsFor l.session (records ++ arrivals_of_first l.packets l.fates l.initial.session.tick l.i))
