use Rattle.std.proofs.Common.{sym}
use Rattle.ethernet_channel.proofs.Queues.{IsQueue-begin}
use Rattle.ethernet_channel.proofs.frame_queue.FrameQueue.begin_frame.Goals as goal

pub invariant_of-self : goal.invariant_of-self
invariant_of-self c =
    let kept = c.self.inside in
    let none = rw (← c.self.view_is) at c.requires in
    rw c.in-Some.ensures.items
    (IsQueue-begin kept.left c.in-Some.length kept.lengths.items kept.octets.items kept.lengths.capacity kept.octets.capacity c.self.invariant none (sym c.in-Some.ensures.value))
