use Rattle.std.proofs.Common.{ap}
use Rattle.hdlc_channel.proofs.Queues.{cut-none}
use Rattle.hdlc_channel.proofs.frame_queue.FrameQueue.begin.Goals as goal

pub returns : goal.returns
returns c = cut-none c.in_ok-lengths.lengths.items c.in_ok-octets.octets.items (ap (λ b. b.items) c.in_ok-lengths.ensures)
