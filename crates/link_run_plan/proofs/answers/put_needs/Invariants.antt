use Rattle.std.proofs.Common.{◌≡◌}
use Rattle.link_text.specs.Gathered.{Gathers}
use Rattle.link_text.specs.Printed.{lines_below}
use Rattle.link_run_plan.specs.Texts.{need_line}
use Rattle.link_run_plan.proofs.answers.put_needs.Given as goal

-- the lines of the places so far
abbrev pub invariant-loop-f : goal.invariant-loop-f
invariant-loop-f g l = record {
  text : Gathers (lines_below (need_line l.checked) l.f) l.initial.text (g.K.Sink.taken l.initial.out) l.text (g.K.Sink.taken l.out);
  writes : (g.K.Sink.taken l.out).faults ≡ (g.K.Sink.taken l.initial.out).faults;
}
