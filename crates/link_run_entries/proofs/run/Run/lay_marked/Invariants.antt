use Rattle.std.proofs.Common.{◌≡◌, ◌+◌, ◌*◌, ◌≤◌}
use Rattle.link_text.specs.Laid.{Lays}
use Rattle.link_run_entries.specs.SampleLines.{run_lines}
use Rattle.link_run_entries.proofs.run.Run.lay_marked.Given as goal

-- the lines of the samples so far, and the front of the next one
abbrev pub invariant-loop-i : goal.invariant-loop-i
invariant-loop-i l = record {
  tick : l.front.tick ≡ l.self.tick.now.tick;
  carrier : l.front.carrier ≡ l.self.carrier;
  number : 10 * l.front.tens + l.front.last ≡ l.self.number + l.i;
  short : l.end ≤ l.at + 78 * l.i;
  lays : Lays (run_lines l.self.tick.now.tick l.self.carrier l.self.number l.self.marks l.self.samples.now l.i) l.initial.octets l.at l.octets l.end;
}
