use Rattle.ethernet_channel.proofs.WrittenFrames.{events_at-queued}
use Rattle.ethernet_channel.proofs.laws.queued_frames_are_found.Goals as goal

pub returns : goal.returns
returns c = events_at-queued
