use Rattle.std.proofs.Common.{◌≡◌, List}
use Rattle.std.specs.Prelude.{slice_get}
use Rattle.link_base.specs.Record.{Record}
use Rattle.link_receiver.specs.Sessions.{StandsFor}
use Rattle.link_text.specs.Gathered.{Gathers}
use Rattle.link_text.specs.Printed.{lines_below}
use Rattle.link_run_replay.specs.EntryLines.{line_of_flow}
use Rattle.link_run_replay.proofs.entry_lines.put_flows.Given as goal

-- the lines of the flows so far
abbrev pub invariant-loop-f : goal.invariant-loop-f
invariant-loop-f g l = record {
  text : (records : List Record) → StandsFor l.session records
      → Gathers (lines_below (λ place. line_of_flow l.session.plan l.session.frames records place (slice_get l.session.plan.flows place)) l.f)
      l.initial.text (g.K.Sink.taken l.initial.out) l.text (g.K.Sink.taken l.out);
  writes : (g.K.Sink.taken l.out).faults ≡ (g.K.Sink.taken l.initial.out).faults;
}
