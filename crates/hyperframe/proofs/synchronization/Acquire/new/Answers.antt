use Rattle.std.proofs.Common.{refl}
use Rattle.hyperframe.specs.Locks.{sync_of, sync_within}
use Rattle.hyperframe.proofs.synchronization.Acquire.new.Goals as goal

pub returns : goal.returns
unfolding sync_of sync_within
returns c = record { state = refl; x = refl }
