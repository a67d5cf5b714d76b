use Rattle.std.proofs.Common.{◌≤◌, ◌-◌, length, take}
use Rattle.link_run_send.specs.Ahead.{TakesLines}
use Rattle.link_run_send.proofs.ahead.read_due.Given as goal

-- the lines so far were taken
abbrev pub invariant-loop-due : goal.invariant-loop-due
invariant-loop-due l = record {
  within : l.ahead.octets ≤ length l.octets;
  takes : TakesLines l.width l.initial.due (take l.ahead.octets l.octets) l.ahead.lines l.due;
}

abbrev pub decreases-loop-due : goal.decreases-loop-due
decreases-loop-due l = l.due.count - l.due.come
