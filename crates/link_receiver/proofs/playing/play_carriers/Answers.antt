use Rattle.std.proofs.Common.{◌≡◌, ◌+◌, ◌<◌, length, get_or, refl, ap, ◌∙◌, subst, arith}
use Rattle.std.specs.Option.{option_copied}
use Rattle.carrier_plan.specs.declared.plan.Flow.{Flow}
use Rattle.roe_mappers.specs.Parts.{spelled_octets}
use Rattle.link_receiver.specs.Playing.{Plays, octets_in_hand}
use Rattle.link_receiver.specs.declared.carrier_in_hand.CarrierInHand.{CarrierInHand}
use Rattle.link_receiver.proofs.OctetsInHand.{item, item_at}
use Rattle.link_receiver.proofs.Readiness.{get_or-any, kept_at, plays-length, plays-next, ready_flow, ready_number, ready_route, ready_within, unplayed-next}
use Rattle.link_receiver.proofs.playing.play_carriers.Goals as goal

pub octets_of-octets-requires-clause-flow : goal.octets_of-octets-requires-clause-flow
octets_of-octets-requires-clause-flow c =
    let p = c.args.plan.now in
    let inside : c.loop-c.c < length p.carriers = let many = c.requires.carriers.as_many in omega (arith, many, c.loop-c-test.true) in
    let keeps = kept_at p c.args.run_ticks (c.args.n + p.playout) c.loop-c.c c.args.carriers.now c.loop-c.carriers c.index-carriers-c.result c.requires.carriers inside (c.loop-c.invariant.2 c.loop-c.c c.index-carriers-c.result (omega arith)) in
    let kept = get_or c.loop-c.carriers c.loop-c.c c.index-carriers-c.result in
    let carrier = item p.carriers c.loop-c.c inside in
    let read = item_at p.carriers c.loop-c.c inside in
    ready_flow p c.args.run_ticks (c.args.n + p.playout) c.loop-c.c carrier kept c.requires.good read keeps

pub play-requires-clause-route : goal.play-requires-clause-route
play-requires-clause-route c =
    let p = c.args.plan.now in
    let inside : c.loop-c.c < length p.carriers = let many = c.requires.carriers.as_many in omega (arith, many, c.loop-c-test.true) in
    let keeps = kept_at p c.args.run_ticks (c.args.n + p.playout) c.loop-c.c c.args.carriers.now c.loop-c.carriers c.index-carriers-c-in-loop-c.result c.requires.carriers inside (c.loop-c.invariant.2 c.loop-c.c c.index-carriers-c-in-loop-c.result (omega arith)) in
    let kept = get_or c.loop-c.carriers c.loop-c.c c.index-carriers-c-in-loop-c.result in
    let carrier = item p.carriers c.loop-c.c inside in
    let read = item_at p.carriers c.loop-c.c inside in
    ready_route p c.args.run_ticks (c.args.n + p.playout) c.loop-c.c carrier kept c.requires.good read keeps

pub play-requires-clause-within : goal.play-requires-clause-within
play-requires-clause-within c =
    let p = c.args.plan.now in
    let inside : c.loop-c.c < length p.carriers = let many = c.requires.carriers.as_many in omega (arith, many, c.loop-c-test.true) in
    let keeps = kept_at p c.args.run_ticks (c.args.n + p.playout) c.loop-c.c c.args.carriers.now c.loop-c.carriers c.index-carriers-c-in-loop-c.result c.requires.carriers inside (c.loop-c.invariant.2 c.loop-c.c c.index-carriers-c-in-loop-c.result (omega arith)) in
    let kept = get_or c.loop-c.carriers c.loop-c.c c.index-carriers-c-in-loop-c.result in
    let carrier = item p.carriers c.loop-c.c inside in
    let read = item_at p.carriers c.loop-c.c inside in
    let many = c.loop-c.invariant.0 in
    let same = get_or-any c.loop-c.carriers c.loop-c.c c.index-carriers-c.result c.index-carriers-c-in-loop-c.result (omega (arith, many, c.loop-c-test.true)) in
    let f = ready_flow p c.args.run_ticks (c.args.n + p.playout) c.loop-c.c carrier kept c.requires.good read keeps in
    let d : Flow = item p.flows kept.flow f in
    λ x some.
    ready_within p c.args.run_ticks (c.args.n + p.playout) c.loop-c.c carrier kept c.requires.good read keeps (length x.now) d
    (c.octets_of-octets.ensures.whole x some d ∙ ap (λ (k : CarrierInHand). spelled_octets p.mode p (get_or p.flows k.flow d)) same)

pub play-requires-clause-room : goal.play-requires-clause-room
play-requires-clause-room c =
    let p = c.args.plan.now in
    let inside : c.loop-c.c < length p.carriers = let many = c.requires.carriers.as_many in omega (arith, many, c.loop-c-test.true) in
    let keeps = kept_at p c.args.run_ticks (c.args.n + p.playout) c.loop-c.c c.args.carriers.now c.loop-c.carriers c.index-carriers-c-in-loop-c.result c.requires.carriers inside (c.loop-c.invariant.2 c.loop-c.c c.index-carriers-c-in-loop-c.result (omega arith)) in
    let kept = get_or c.loop-c.carriers c.loop-c.c c.index-carriers-c-in-loop-c.result in
    let carrier = item p.carriers c.loop-c.c inside in
    let read = item_at p.carriers c.loop-c.c inside in
    keeps.room

pub play-requires-clause-number : goal.play-requires-clause-number
play-requires-clause-number c =
    let p = c.args.plan.now in
    let inside : c.loop-c.c < length p.carriers = let many = c.requires.carriers.as_many in omega (arith, many, c.loop-c-test.true) in
    let keeps = kept_at p c.args.run_ticks (c.args.n + p.playout) c.loop-c.c c.args.carriers.now c.loop-c.carriers c.index-carriers-c-in-loop-c.result c.requires.carriers inside (c.loop-c.invariant.2 c.loop-c.c c.index-carriers-c-in-loop-c.result (omega arith)) in
    let kept = get_or c.loop-c.carriers c.loop-c.c c.index-carriers-c-in-loop-c.result in
    let carrier = item p.carriers c.loop-c.c inside in
    let read = item_at p.carriers c.loop-c.c inside in
    ready_number p c.args.run_ticks (c.args.n + p.playout) c.loop-c.c carrier kept c.requires.good read keeps c.requires.run

pub loop-c-init : goal.loop-c-init
loop-c-init c = (refl, (λ i d low. absurd (omega arith)), (λ i d high. refl))

pub loop-c-preserved : goal.loop-c-preserved
loop-c-preserved c =
    let p = c.args.plan.now in
    let many = c.loop-c.invariant.0 in
    let e = c.index-carriers-c-in-loop-c.result in
    let kept = get_or c.loop-c.carriers c.loop-c.c e in
    let same = get_or-any c.loop-c.carriers c.loop-c.c c.index-carriers-c.result e (omega (arith, many, c.loop-c-test.true)) in
    let octets : option_copied c.octets_of-octets.result ≡ octets_in_hand p c.args.flows.now kept.flow c.args.n
    = c.octets_of-octets.ensures.octets ∙ ap (λ (k : CarrierInHand). octets_in_hand p c.args.flows.now k.flow c.args.n) same in
    let plays : Plays kept c.play.new.self (octets_in_hand p c.args.flows.now kept.flow c.args.n) c.args.n c.args.run_ticks
    = subst (λ o. Plays kept c.play.new.self o c.args.n c.args.run_ticks) octets
    (record {
      flow = c.play.ensures.flow;
      block_frames = c.play.ensures.block_frames;
      route = c.play.ensures.route;
      room = c.play.ensures.room;
      block = c.play.ensures.block;
      number = c.play.ensures.number;
      leaves = c.play.ensures.leaves;
      early = c.play.ensures.early;
      late = c.play.ensures.late;
    }) in (
      plays-length p c.args.flows.now c.args.n c.args.run_ticks c.args.carriers.now c.loop-c.carriers c.loop-c.c c.play.new.self e c.loop-c-test.true many c.loop-c.invariant.1 c.loop-c.invariant.2 plays,
      plays-next p c.args.flows.now c.args.n c.args.run_ticks c.args.carriers.now c.loop-c.carriers c.loop-c.c c.play.new.self e c.loop-c-test.true many c.loop-c.invariant.1 c.loop-c.invariant.2 plays,
      unplayed-next p c.args.flows.now c.args.n c.args.run_ticks c.args.carriers.now c.loop-c.carriers c.loop-c.c c.play.new.self e c.loop-c-test.true many c.loop-c.invariant.1 c.loop-c.invariant.2 plays,
    )

pub returns : goal.returns
returns c = record { as_many = c.loop-c.invariant.0; each = λ i d inside. c.loop-c.invariant.1 i d (omega (arith, inside, c.loop-c-test.false)) }
