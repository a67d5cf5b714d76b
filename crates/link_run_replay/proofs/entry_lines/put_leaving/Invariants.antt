use Rattle.std.proofs.Common.{◌≡◌, List}
use Rattle.link_base.specs.Record.{Record}
use Rattle.link_receiver.specs.Output.{entries_of}
use Rattle.link_receiver.specs.Sessions.{StandsFor}
use Rattle.link_text.specs.Gathered.{Gathers}
use Rattle.link_text.specs.Printed.{lines_below}
use Rattle.link_run_replay.specs.EntryLines.{entry_lines}
use Rattle.link_run_replay.proofs.entry_lines.put_leaving.Given as goal

-- the lines of the carriers so far
abbrev pub invariant-loop-c : goal.invariant-loop-c
invariant-loop-c g l = record {
  text : (records : List Record) → StandsFor l.session records
      → Gathers (lines_below (λ c. entry_lines (entries_of l.session.plan l.session.frames records l.tick c)) l.c)
      l.initial.text (g.K.Sink.taken l.initial.out) l.text (g.K.Sink.taken l.out);
  writes : (g.K.Sink.taken l.out).faults ≡ (g.K.Sink.taken l.initial.out).faults;
}
