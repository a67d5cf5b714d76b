use Rattle.std.proofs.Common.{◌≡◌, ◌≤◌, ◌+◌, ◌-◌, ◌^◌, ◌<◌, ◌∙◌, sym, subst, arith}
use Rattle.std.specs.Prelude.{None}
use Rattle.ethernet_channel.proofs.Chunks.{front_below, rest_below, ran_split, none_from, event_then, then_event}
use Rattle.ethernet_channel.proofs.reader.FastReader.take_rest.Goals as goal

pub take_bits-event-requires-clause-small : goal.take_bits-event-requires-clause-small
take_bits-event-requires-clause-small c =
    let last = c.args.left - 5 in
    let whole : c.args.left ≡ 5 + last = omega (arith, c.if-left-le5.false) in
    rw c.from-2.ensures (front_below c.args.bits last 5 (subst (λ n. c.args.bits < 2 ^ n) whole c.requires.small))

pub returns-then-is_some : goal.returns-then-is_some
returns-then-is_some c =
    let last = c.args.left - 5 in
    let few : last ≤ 7 = omega (arith, c.requires.few) in
    let rest = c.from-rest.result in
    ran_split c.args.self.now c.take_bits-event.new.self c.pass_over.new.self c.take_bits-event.result None c.take_bits-event.result
    c.args.bits 5 last c.args.left c.from-2.result rest few (omega (arith, c.if-left-le5.false)) c.from-2.ensures c.from-rest.ensures c.take_bits-event.ensures.ran
    (c.pass_over.ensures last few (rest_below c.args.bits last rest few c.from-rest.ensures)) (event_then c.take_bits-event.result)

pub returns : goal.returns
returns c =
    let last = c.args.left - 5 in
    let few : last ≤ 7 = omega (arith, c.requires.few) in
    let none = none_from c.take_bits-event.result (sym c.is_some.ensures ∙ c.if-is_some.false) in
    ran_split c.args.self.now c.take_bits-event.new.self c.take_bits-2.new.self c.take_bits-event.result c.take_bits-2.result c.take_bits-2.result
    c.args.bits 5 last c.args.left c.from-2.result c.from-rest.result few (omega (arith, c.if-left-le5.false)) c.from-2.ensures c.from-rest.ensures
    c.take_bits-event.ensures.ran c.take_bits-2.ensures.ran (then_event c.take_bits-event.result c.take_bits-2.result none)
