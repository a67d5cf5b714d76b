use Rattle.std.proofs.Common.{◌+◌, ◌*◌, ◌-◌, length, ap, ◌∙◌}
use Rattle.hdlc_channel.specs.SlowStream.{room_of}
use Rattle.hdlc_channel.proofs.Queues.{room_is}
use Rattle.hdlc_channel.proofs.frame_queue.FrameQueue.room.Goals as goal

pub returns : goal.returns
returns c =
    let q = c.self.inside in
    ap (λ n. 8192 - (n + 2 * c.len-2.result)) c.len.ensures.len ∙ ap (λ n. 8192 - (length q.octets.items + 2 * n)) c.len-2.ensures.len
    ∙ room_is q.lengths.items q.octets.items q.lengths.capacity q.octets.capacity c.self.invariant ∙ ap room_of c.self.view_is
