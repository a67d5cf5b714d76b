use Rattle.ethernet_channel.proofs.WrittenFrames.{events_at-written}
use Rattle.ethernet_channel.proofs.laws.written_frames_are_found.Goals as goal

pub returns : goal.returns
returns c = events_at-written
