use Rattle.std.proofs.Common.{sym}
use Rattle.ethernet_channel.proofs.Queues.{room_left}
use Rattle.ethernet_channel.proofs.frame_queue.FrameQueue.room.Goals as goal

pub returns : goal.returns
returns c =
    let kept = c.self.inside in
    rw (← c.self.view_is, c.len.ensures.len, c.len-2.ensures.len)
    (sym (room_left kept.left kept.lengths.items kept.octets.items c.self.invariant.whole))
