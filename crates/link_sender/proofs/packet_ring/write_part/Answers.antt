use Rattle.std.proofs.Common.{◌≡◌, ℕ, ◌+◌, ◌-◌, ◌*◌, ◌%◌, ◌≤◌, List, length, length-drop, drop, slice_get, Some, sym, ap, ◌∙◌, subst, arith}
use Rattle.std.specs.List.{HoldsAt}
use Rattle.std.proofs.lemmas.List.{length-take-le}
use Rattle.std.proofs.lemmas.Nat.{mod_below, mul-le}
use borrow.Rule.Slice.PartMut.{put_mid}
use Rattle.carrier_plan.specs.declared.plan.Flow.{Flow}
use Rattle.carrier_plan.specs.declared.plan.Plan.{Plan}
use Rattle.plan_checker.specs.Flows.{octets_of_frame}
use Rattle.plan_checker.specs.Rules.{IsGood}
use Rattle.plan_checker.specs.Run.{frame_octets_of}
use Rattle.roe_mappers.specs.Parts.{IsPart}
use Rattle.link_sender.specs.Rings.{WritesPart, payload_octets}
use Rattle.link_sender.proofs.GoodFlows.{IsGoodFlow, flow_is, flow_of, good_flow}
use Rattle.link_sender.proofs.PartSteps.{writes_part}
use Rattle.link_sender.proofs.packet_ring.write_part.Goals as goal

-- what the plan says of the flow
one : (p q : Plan) (i : ℕ) (f : Flow) → q ≡ p → IsGood q → slice_get q.flows i ≡ Some f → IsGoodFlow p i f
one p q i f same good read = good_flow p i f (subst IsGood same good) (flow_of p q i f same read)

-- the part stands in the payload
record IsPlace (frames count size n : ℕ) : Type 0 where
  few : n % frames * size + size ≤ 1492
  within : 22 + n % frames * size + size ≤ 22 + frames * size

place : (p : Plan) (i n frames size : ℕ) (f : Flow) → IsGoodFlow p i f → frames ≡ f.frames → size ≡ frame_octets_of p i → IsPlace frames f.frames size n
place p i n frames size f is count octets =
    let some : 1 ≤ frames = omega (arith, is.payload.some_frames) in
    let low = mod_below n frames some in
    let most = mul-le (n % frames + 1) size frames size (omega arith) (omega arith) in
    let all : frames * size ≡ f.frames * octets_of_frame p f = ap (λ x. x * size) count ∙ ap (λ x. f.frames * x) (octets ∙ is.octets) in
    let few = is.payload.few_octets in
    record { few = omega (arith, most, all, few); within = omega (arith, most) }

pub number_packet-requires-clause-room : goal.number_packet-requires-clause-room
number_packet-requires-clause-room g c =
    let room = c.requires.room c.at-flow.result.now in
    omega (arith, room)

pub number_packet-requires-clause-frames : goal.number_packet-requires-clause-frames
number_packet-requires-clause-frames g c =
    (one c.args.checked.now c.plan.result.now c.args.f c.at-flow.result.now c.plan.ensures.same c.plan.ensures.good c.at-flow.ensures).payload.some_frames

pub number_packet-requires-clause-numbers : goal.number_packet-requires-clause-numbers
number_packet-requires-clause-numbers g c =
    (one c.args.checked.now c.plan.result.now c.args.f c.at-flow.result.now c.plan.ensures.same c.plan.ensures.good c.at-flow.ensures).numbers

pub nonzero_rem-from : goal.nonzero_rem-from
nonzero_rem-from g c =
    let is = one c.args.checked.now c.plan.result.now c.args.f c.at-flow.result.now c.plan.ensures.same c.plan.ensures.good c.at-flow.ensures in
    omega (arith, is.payload.some_frames, c.from.ensures)

pub overflow_mul-from : goal.overflow_mul-from
overflow_mul-from g c =
    let is = one c.args.checked.now c.plan.result.now c.args.f c.at-flow.result.now c.plan.ensures.same c.plan.ensures.good c.at-flow.ensures in
    let there = place c.args.checked.now c.args.f c.args.n c.from.result c.frame_octets-size.result c.at-flow.result.now is c.from.ensures c.frame_octets-size.ensures in
    omega (arith, there.few)

pub overflow_add-from : goal.overflow_add-from
overflow_add-from g c =
    let is = one c.args.checked.now c.plan.result.now c.args.f c.at-flow.result.now c.plan.ensures.same c.plan.ensures.good c.at-flow.ensures in
    let there = place c.args.checked.now c.args.f c.args.n c.from.result c.frame_octets-size.result c.at-flow.result.now is c.from.ensures c.frame_octets-size.ensures in
    omega (arith, there.few)

pub overflow_add-from-2 : goal.overflow_add-from-2
overflow_add-from-2 g c =
    let is = one c.args.checked.now c.plan.result.now c.args.f c.at-flow.result.now c.plan.ensures.same c.plan.ensures.good c.at-flow.ensures in
    let there = place c.args.checked.now c.args.f c.args.n c.from.result c.frame_octets-size.result c.at-flow.result.now is c.from.ensures c.frame_octets-size.ensures in
    omega (arith, there.few)

-- the payload stands in the octets
room_for : (p q : Plan) (i : ℕ) (f : Flow) (octets : List ℕ) → q ≡ p → slice_get q.flows i ≡ Some f → HoldsAt (λ flow. 22 + payload_octets p flow ≤ length octets) p.flows i
    → 22 + payload_octets p f ≤ length octets
room_for p q i f octets same read room = subst (λ (x : Flow). 22 + payload_octets p x ≤ length octets) (flow_is p i f f (flow_of p q i f same read)) (room f)

part_end : (p : Plan) (i n frames size long : ℕ) (f : Flow) → IsGoodFlow p i f → frames ≡ f.frames → size ≡ frame_octets_of p i → 22 + payload_octets p f ≤ long → 22 + n % frames * size + size ≤ long
part_end p i n frames size long f is count octets room =
    let there = place p i n frames size f is count octets in
    let all : frames * size ≡ payload_octets p f = ap (λ x. x * size) count ∙ ap (λ x. f.frames * x) (octets ∙ is.octets) in
    omega (arith, there.within, all)

pub slice_bounds-map_frame-end : goal.slice_bounds-map_frame-end
slice_bounds-map_frame-end g c =
    let p = c.args.checked.now in
    let f = c.at-flow.result.now in
    let is = one p c.plan.result.now c.args.f f c.plan.ensures.same c.plan.ensures.good c.at-flow.ensures in
    let room = room_for p c.plan.result.now c.args.f f c.args.packet.now c.plan.ensures.same c.at-flow.ensures c.requires.room in
    let long : 22 + payload_octets p f ≤ length c.number_packet.new.packet = omega (arith, room, c.number_packet.auto.packet) in
    part_end p c.args.f c.args.n c.from.result c.frame_octets-size.result (length c.number_packet.new.packet) f is c.from.ensures c.frame_octets-size.ensures long

pub map_frame-requires : goal.map_frame-requires
map_frame-requires g c =
    let p = c.args.checked.now in
    let f = c.at-flow.result.now in
    let mid = c.number_packet.new.packet in
    let is = one p c.plan.result.now c.args.f f c.plan.ensures.same c.plan.ensures.good c.at-flow.ensures in
    let room = room_for p c.plan.result.now c.args.f f c.args.packet.now c.plan.ensures.same c.at-flow.ensures c.requires.room in
    let long : 22 + payload_octets p f ≤ length mid = omega (arith, room, c.number_packet.auto.packet) in
    let within = part_end p c.args.f c.args.n c.from.result c.frame_octets-size.result (length mid) f is c.from.ensures c.frame_octets-size.ensures long in
    let at : ℕ = 22 + c.args.n % c.from.result * c.frame_octets-size.result in
    let width : ℕ = at + c.frame_octets-size.result - at in
    let left = length-drop at mid in
    let size = length-take-le width (drop at mid) (omega arith) in
    (omega arith, (c.requires.word, (c.requires.flow, (size ∙ omega (arith, c.frame_octets-size.ensures), c.requires.comma))))

pub returns-clause-part : goal.returns-clause-part
returns-clause-part g c d =
    let p = c.args.checked.now in
    let q = c.plan.result.now in
    let f = c.at-flow.result.now in
    let i : ℕ = c.args.f in
    let n : ℕ = c.args.n in
    let rd = c.args.rd in
    let frame = c.args.frame.now in
    let mid = c.number_packet.new.packet in
    let out = c.map_frame.new.out in
    let same = c.plan.ensures.same in
    let read = flow_of p q i f same c.at-flow.ensures in
    let is = one p q i f same c.plan.ensures.good c.at-flow.ensures in
    let room = room_for p q i f c.args.packet.now same c.at-flow.ensures c.requires.room in
    let part : IsPart p f n rd frame out = subst (λ (x : Flow). IsPart p x n rd frame out) (flow_is p i f d read) (c.map_frame.ensures.part d) in
    let whole = writes_part p f n rd frame c.args.packet.now mid out is.payload.some_frames room c.number_packet.auto.packet c.number_packet.ensures.front c.number_packet.ensures.order c.number_packet.ensures.rest part in
    let start : 22 + n % f.frames * octets_of_frame p f ≡ 22 + n % c.from.result * c.frame_octets-size.result =
    ap (λ x. 22 + n % x * octets_of_frame p f) (sym c.from.ensures) ∙ ap (λ x. 22 + n % c.from.result * x) (sym (c.frame_octets-size.ensures ∙ is.octets)) in
    let at : ℕ = 22 + n % c.from.result * c.frame_octets-size.result in
    let width : octets_of_frame p f ≡ at + c.frame_octets-size.result - at = sym (c.frame_octets-size.ensures ∙ is.octets) ∙ omega arith in
    subst (λ (x : Flow). WritesPart p x n rd frame c.args.packet.now (put_mid at (at + c.frame_octets-size.result - at) mid out)) (sym (flow_is p i f d read))
    (subst (λ w. WritesPart p f n rd frame c.args.packet.now (put_mid at w mid out)) width
    (subst (λ a. WritesPart p f n rd frame c.args.packet.now (put_mid a (octets_of_frame p f) mid out)) start whole))
