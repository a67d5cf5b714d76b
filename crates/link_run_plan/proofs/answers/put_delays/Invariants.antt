use Rattle.std.proofs.Common.{◌≡◌}
use Rattle.link_text.specs.Gathered.{Gathers}
use Rattle.link_text.specs.Printed.{lines_below}
use Rattle.link_run_plan.specs.Texts.{delay_line}
use Rattle.link_run_plan.proofs.answers.put_delays.Given as goal

-- the lines of the places so far
abbrev pub invariant-loop-c : goal.invariant-loop-c
invariant-loop-c g l = record {
  text : Gathers (lines_below (delay_line l.checked) l.c) l.initial.text (g.K.Sink.taken l.initial.out) l.text (g.K.Sink.taken l.out);
  writes : (g.K.Sink.taken l.out).faults ≡ (g.K.Sink.taken l.initial.out).faults;
}
