use Rattle.std.proofs.Common.{◌≡◌}
use Rattle.link_receiver.specs.Output.{entries_below}
use Rattle.link_receiver.specs.Sessions.{StandsFor}
use Rattle.plan_checker.specs.Run.{ticks_of_run}
use Rattle.plan_checker.specs.WordSize.{word_size}
use Rattle.link_drill.specs.Arrivals.{arrivals_below}
use Rattle.link_drill.specs.DrillStream.{drill_stream}
use Rattle.link_drill.specs.Tally.{IsTally}
use Rattle.link_drill.proofs.playing.play.Given as goal

-- the session was handed the records of the ticks below this one, and the entries of those ticks are counted
abbrev pub invariant-loop : goal.invariant-loop
invariant-loop l = record {
  plan : l.session.plan ≡ l.checked;
  frames : l.session.frames ≡ 256;
  tick : l.session.tick ≡ l.counter;
  stands : StandsFor l.session (arrivals_below l.packets l.fates l.counter);
  counted : IsTally (drill_stream (word_size l.checked.option) 256 l.drawn)
      (entries_below l.checked 256 (arrivals_below l.packets l.fates (ticks_of_run l.checked 256)) l.counter) l.tally;
}
