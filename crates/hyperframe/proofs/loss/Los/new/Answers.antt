use Rattle.std.proofs.Common.{refl}
use Rattle.hyperframe.specs.Loss.{is_lost, lost_after}
use Rattle.hyperframe.proofs.loss.Los.new.Goals as goal

pub returns : goal.returns
unfolding is_lost lost_after
returns c = record { frames = refl; violations = refl; lost = refl }
