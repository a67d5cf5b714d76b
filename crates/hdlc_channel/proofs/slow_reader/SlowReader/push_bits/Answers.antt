use Rattle.std.proofs.Common.{◌≡◌, ◌+◌, ◌-◌, ◌/◌, ◌^◌, ◌<◌, ◌≤◌, ◌==◌, ◌++◌, length, take, drop, bit_and, sym, ◌∙◌, subst, arith}
use Rattle.hdlc_channel.specs.Bits.{octet_bits}
use Rattle.hdlc_channel.proofs.Octets.{TakenSo, none_taken, answer_at, stands_after, one_more_taken, given_bit, given_length, none_from, takes, takes_all}
use Rattle.hdlc_channel.proofs.slow_reader.SlowReader.push_bits.Goals as goal

pub loop-place-init : goal.loop-place-init
loop-place-init c bits stands =
    let e : 0 ≡ c.args.from - c.args.from = omega arith in
    subst (λ n. TakenSo (drop c.args.from (octet_bits c.args.octet)) n c.args.self.now bits) e (none_taken (drop c.args.from (octet_bits c.args.octet)) c.args.self.now bits stands)

pub loop-place-preserved : goal.loop-place-preserved
loop-place-preserved c bits stands =
    let given = drop c.args.from (octet_bits c.args.octet) in
    let place = c.loop-place.place in
    let k = place - c.args.from in
    let b = bit_and (c.args.octet / 2 ^ place) 1 == 1 in
    let before = c.loop-place.invariant bits stands in
    let from_le : c.args.from ≤ place = c.loop-place.auto.place in
    let below : place < 8 = c.loop-place-test.true in
    let long = given_length c.args.octet c.args.from in
    let inside : k < length given = omega arith in
    let is = given_bit c.args.octet c.args.from place b from_le below in
    let none = answer_at given bits k b inside is c.push-event.result (c.push-event.ensures.answer (bits ++ take k given) before.stands)
    ∙ none_from c.push-event.result (sym c.is_some.ensures ∙ c.if-is_some.false) in
    let after = stands_after given bits k b inside is c.push-event.new.self (c.push-event.ensures.stands (bits ++ take k given) before.stands) in
    let e : k + 1 ≡ place + 1 - c.args.from = omega arith in
    subst (λ n. TakenSo given n c.push-event.new.self bits) e (one_more_taken given bits k c.loop-place.self c.push-event.new.self before none after)

pub returns-then-is_some-clause-takes : goal.returns-then-is_some-clause-takes
returns-then-is_some-clause-takes c bits stands =
    let given = drop c.args.from (octet_bits c.args.octet) in
    let place = c.loop-place.place in
    let k = place - c.args.from in
    let b = bit_and (c.args.octet / 2 ^ place) 1 == 1 in
    let before = c.loop-place.invariant bits stands in
    let from_le : c.args.from ≤ place = c.loop-place.auto.place in
    let below : place < 8 = c.loop-place-test.true in
    let long = given_length c.args.octet c.args.from in
    let inside : k < length given = omega arith in
    let is = given_bit c.args.octet c.args.from place b from_le below in
    takes given bits c.args.from place c.push-event.result c.loop-place.self c.push-event.new.self from_le before
    (answer_at given bits k b inside is c.push-event.result (c.push-event.ensures.answer (bits ++ take k given) before.stands))
    (stands_after given bits k b inside is c.push-event.new.self (c.push-event.ensures.stands (bits ++ take k given) before.stands))

pub returns-clause-takes : goal.returns-clause-takes
returns-clause-takes c bits stands =
    let place = c.loop-place.place in
    let from_le : c.args.from ≤ place = c.loop-place.auto.place in
    let end : 8 ≤ place = c.loop-place-test.false in
    let h : c.args.from < 8 = c.requires in
    let last : place ≤ 8 = c.loop-place.auto.place-end (omega arith) in
    let e : place - c.args.from ≡ 8 - c.args.from = omega arith in
    takes_all (drop c.args.from (octet_bits c.args.octet)) bits (8 - c.args.from) c.loop-place.self (omega arith)
    (subst (λ n. TakenSo (drop c.args.from (octet_bits c.args.octet)) n c.loop-place.self bits) e (c.loop-place.invariant bits stands))
