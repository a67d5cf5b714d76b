use Rattle.std.proofs.Common.{◌≡◌, ◌≤◌, ◌+◌, ◌-◌, ◌^◌, ◌<◌, ◌∙◌, refl, sym, subst, arith}
use Rattle.std.specs.Prelude.{None}
use Rattle.ethernet_channel.proofs.Chunks.{front_below, rest_below, ran_split, none_from, event_then, then_event}
use Rattle.ethernet_channel.proofs.reader.FastReader.take_groups.Goals as goal

pub take_bits-event-requires-clause-small : goal.take_bits-event-requires-clause-small
take_bits-event-requires-clause-small c =
    let left = c.self.inside.bits + 3 in
    let whole : 8 ≡ (8 - left) + left = omega (arith, c.self.invariant) in
    let small : c.args.bits < 256 = omega arith in
    rw c.from.ensures (front_below c.args.bits left (8 - left) (subst (λ n. c.args.bits < 2 ^ n) whole small))

pub returns-then-is_some : goal.returns-then-is_some
returns-then-is_some c =
    let left = c.self.inside.bits + 3 in
    let few : left ≤ 7 = omega (arith, c.self.invariant) in
    let rest = c.from-then-is_some.result in
    ran_split c.args.self.now c.take_bits-event.new.self c.pass_over.new.self c.take_bits-event.result None c.take_bits-event.result
    c.args.bits (8 - left) left 8 c.from.result rest few (omega (arith, few)) c.from.ensures c.from-then-is_some.ensures c.take_bits-event.ensures.ran
    (c.pass_over.ensures left few (rest_below c.args.bits left rest few c.from-then-is_some.ensures)) (event_then c.take_bits-event.result)

pub returns : goal.returns
returns c =
    let left = c.self.inside.bits + 3 in
    let few : left ≤ 7 = omega (arith, c.self.invariant) in
    let none = none_from c.take_bits-event.result (sym c.is_some.ensures ∙ c.if-is_some.false) in
    ran_split c.args.self.now c.take_bits-event.new.self c.take_rest.new.self c.take_bits-event.result c.take_rest.result c.take_rest.result
    c.args.bits (8 - left) left 8 c.from.result _ few (omega (arith, few)) c.from.ensures refl c.take_bits-event.ensures.ran
    c.take_rest.ensures (then_event c.take_bits-event.result c.take_rest.result none)
