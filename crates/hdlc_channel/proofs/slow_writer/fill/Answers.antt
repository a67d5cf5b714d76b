use Rattle.std.proofs.Common.{◌<◌, ◌≤◌, ◌++◌, length, ap, ◌∙◌, arith}
use Rattle.std.proofs.lemmas.Bool.{both_ways}
use Rattle.std.proofs.lemmas.List.{length-append}
use Rattle.hdlc_channel.specs.SlowStream.{next_item}
use Rattle.hdlc_channel.specs.Outgoing.{channel_of}
use Rattle.hdlc_channel.proofs.Streams.{filled_already, filled_item}
use Rattle.hdlc_channel.proofs.slow_writer.fill.Goals as goal

pub returns-then-ready_len-ge8-clause-same : goal.returns-then-ready_len-ge8-clause-same
returns-then-ready_len-ge8-clause-same c =
    let o = c.args.outgoing.now in
    let long : 8 ≤ c.ready_len.result = c.if-ready_len-ge8.true in
    filled_already (channel_of o c.args.queue.now) (omega (arith, long, c.ready_len.ensures, length-append o.ready o.later))

pub returns-then-is_last-clause-same : goal.returns-then-is_last-clause-same
returns-then-is_last-clause-same c =
    let o = c.args.outgoing.now in
    let few : c.ready_len.result < 8 = c.if-ready_len-ge8.false in
    ap (λ r. record { rest = r; queue = c.begin_item.new.queue }) c.begin_item.ensures.item
    ∙ ap (λ q. record { rest = o.ready ++ next_item c.args.queue.now; queue = q }) c.begin_item.ensures.queue
    ∙ filled_item o.ready o.later c.args.queue.now (omega (arith, few, c.ready_len.ensures)) (c.is_last.ensures.last.0 c.if-is_last.true)

pub returns-else-is_last-clause-same : goal.returns-else-is_last-clause-same
returns-else-is_last-clause-same c =
    let o = c.args.outgoing.now in
    let long : 8 ≤ length o.later = c.is_last.ensures.long (λ none. both_ways c.is_last.result c.if-is_last.false (c.is_last.ensures.last.1 none)) in
    ap (λ r. record { rest = r; queue = c.args.queue.now }) c.stuff.ensures.same
    ∙ filled_already (channel_of o c.args.queue.now) (omega (arith, long, length-append o.ready o.later))
