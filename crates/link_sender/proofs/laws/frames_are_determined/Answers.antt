use Rattle.link_sender.proofs.WholeFrames.{FramesAreDetermined-holds}
use Rattle.link_sender.proofs.laws.frames_are_determined.Goals as goal

pub returns : goal.returns
returns c = FramesAreDetermined-holds
