use Rattle.std.proofs.Common.{◌≡◌, ◌≤◌, ◌-◌, length, take}
use Rattle.link_base.specs.Sink.{Appends}
use Rattle.link_base.proofs.outside.put_all.Given as goal

-- the first octets are written, and no failure came
abbrev pub invariant-loop-done : goal.invariant-loop-done
invariant-loop-done g l = let taken = g.K.Sink.taken in record {
  within : l.done ≤ length l.piece;
  front : Appends (take l.done l.piece) (taken l.initial.out) (taken l.out);
  count : (taken l.out).faults ≡ (taken l.initial.out).faults;
}

abbrev pub decreases-loop-done : goal.decreases-loop-done
decreases-loop-done g l = length l.piece - l.done
