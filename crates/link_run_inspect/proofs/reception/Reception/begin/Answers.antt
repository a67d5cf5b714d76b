use Rattle.std.proofs.Common.{refl}
use Rattle.hyperframe.specs.Locks.{sync_of, sync_within}
use Rattle.hyperframe.specs.Loss.{is_lost, lost_after}
use Rattle.link_run_inspect.specs.Frames.{disparity_after, counted_from}
use Rattle.line_code.proofs.Spelling.{no_some}
use Rattle.link_run_inspect.proofs.reception.Reception.begin.Goals as goal

pub returns-clause-stands : goal.returns-clause-stands
unfolding sync_of sync_within is_lost lost_after disparity_after counted_from
returns-clause-stands c = record {
  number = refl;
  disparity = refl;
  violations = refl;
  acquire = c.new.ensures;
  state = refl;
  los = c.new-2.ensures;
  lost = refl;
  control = λ x e. absurd (no_some x e);
  in_hand = λ x e. absurd (no_some x e);
}
