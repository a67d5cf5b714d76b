use Rattle.link_sender.proofs.Settled.{FramesAreSettled-holds}
use Rattle.link_sender.proofs.laws.frames_are_settled.Goals as goal

pub returns : goal.returns
returns c = FramesAreSettled-holds
