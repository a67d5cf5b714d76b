use Rattle.std.proofs.Common.{subst}
use Rattle.link_sender.specs.Frames.{IsFrame}
use Rattle.link_run_delay.proofs.FramesOfStreams.{frame_of}
use Rattle.link_run_delay.proofs.laws.frames_are_those.Goals as goal

pub returns : goal.returns
returns c p h σ n good stream =
    let frame = frame_of p h σ good stream n in
    subst (IsFrame p σ n) (c.frames_are_determined.ensures p σ n frame.0 good frame.1) frame.1
