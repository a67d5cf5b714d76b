use Rattle.std.proofs.Common.{◌++◌, ◌∷◌, [], length, take, drop, ◌∙◌, ap}
use Rattle.ethernet_channel.specs.Queue.{Frames, cut}
use Rattle.ethernet_channel.proofs.Queues.{taken_whole, kept_whole, IsQueue-push, frames-push}
use Rattle.ethernet_channel.proofs.frame_queue.FrameQueue.append.Goals as goal

pub invariant_of-self : goal.invariant_of-self
invariant_of-self c =
    let kept = c.self.inside in
    let frame = c.args.frame.now in
    let room = rw (← c.self.view_is) at c.requires.room in
    let taken = taken_whole kept.left kept.lengths.items kept.octets.items frame kept.lengths.capacity kept.octets.capacity c.self.invariant room in
    let whole = kept_whole kept.left kept.lengths.items kept.octets.items frame kept.lengths.capacity kept.octets.capacity c.self.invariant room c.requires.some in
    rw (c.push_back.ensures.items, c.fill_from_slice.ensures.items, c.fill_from_slice.ensures.count, taken, whole)
    (IsQueue-push kept.left kept.lengths.items kept.octets.items frame kept.lengths.capacity kept.octets.capacity c.self.invariant room c.requires.some c.requires.few)

pub returns : goal.returns
returns c =
    let kept = c.self.inside in
    let frame = c.args.frame.now in
    let room = rw (← c.self.view_is) at c.requires.room in
    let taken = taken_whole kept.left kept.lengths.items kept.octets.items frame kept.lengths.capacity kept.octets.capacity c.self.invariant room in
    let whole = kept_whole kept.left kept.lengths.items kept.octets.items frame kept.lengths.capacity kept.octets.capacity c.self.invariant room c.requires.some in
    let both = frames-push kept.left kept.lengths.items kept.octets.items frame c.self.invariant.whole in
    rw (← c.self.view_is, c.push_back.ensures.items, c.fill_from_slice.ensures.items, c.fill_from_slice.ensures.count, taken, whole)
    (ap (λ xs. let f : Frames = record { frame = xs; queue = cut (kept.lengths.items ++ length frame ∷ []) (drop kept.left (kept.octets.items ++ frame)) } in f) both.0
    ∙ ap (λ xs. let f : Frames = record { frame = take kept.left kept.octets.items; queue = xs } in f) both.1)
