use Rattle.std.proofs.Common.{◌≡◌, ◌≤◌, ◌-◌, length, IsTrue}
use Rattle.link_base.specs.Shelf.{SameFiles}
use Rattle.link_base.specs.Filling.{FillsTo}
use Rattle.link_base.proofs.filling.fill.Given as goal

-- the front of the buffer is filled, and no failure came
abbrev pub invariant-loop-done : goal.invariant-loop-done
invariant-loop-done g l = let shown = g.H.Shelf.shown in record {
  within : l.done ≤ length l.buf;
  longer : length l.buf ≡ length l.initial.buf;
  files : SameFiles (shown l.initial.shelf) (shown l.shelf);
  count : (shown l.shelf).faults ≡ (shown l.initial.shelf).faults;
  filled : IsTrue (shown l.initial.shelf).tells → FillsTo l.done l.initial.buf l.buf (shown l.initial.shelf) (shown l.shelf);
}

abbrev pub decreases-loop-done : goal.decreases-loop-done
decreases-loop-done g l = length l.buf - l.done
