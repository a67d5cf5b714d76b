use Rattle.std.proofs.Common.{◌≡◌, ℕ, ◌+◌, ◌-◌, ◌*◌, ◌/◌, ◌%◌, ◌≤◌, List, length, length-drop, take, drop, slice_get, Some, refl, sym, ap, ◌∙◌, subst, arith}
use Rattle.std.specs.List.{HoldsAt}
use Rattle.std.proofs.lemmas.List.{length-take-le}
use Rattle.std.specs.Vec.{with_items}
use borrow.Rule.Slice.PartMut.{put_mid}
use Rattle.carrier_plan.specs.declared.plan.Flow.{Flow}
use Rattle.carrier_plan.specs.declared.plan.Plan.{Plan}
use Rattle.line_code.specs.declared.characters.Rd.{Rd}
use Rattle.plan_checker.specs.Flows.{HasPayload}
use Rattle.plan_checker.specs.Rules.{IsGood}
use Rattle.link_sender.specs.Rings.{IsRing, PutsPart, WritesPart, payload_octets}
use Rattle.link_sender.specs.declared.packet_ring.PacketRing.{PacketRing}
use Rattle.link_sender.proofs.GoodFlows.{IsGoodFlow, flow_is, flow_of, good_flow}
use Rattle.link_sender.proofs.Items.{items-written}
use Rattle.link_sender.proofs.RingSteps.{IsWritten, room_in, slot_place, written_at}
use Rattle.link_sender.proofs.Slots.{length-mid}
use Rattle.link_sender.proofs.packet_ring.PacketRing.put.Goals as goal

-- the flow, and its slots
record IsFlowRing (p : Plan) (i : ℕ) (f : Flow) (kept : PacketRing) : Type 0 where
  flow : IsGoodFlow p i f
  ring : IsRing p f kept

flow_ring : (p q : Plan) (i : ℕ) (f : Flow) (ring : PacketRing) → q ≡ p → IsGood q → slice_get q.flows i ≡ Some f → HoldsAt (λ flow. IsRing p flow ring) p.flows i → IsFlowRing p i f ring
flow_ring p q i f ring same good read is =
    let there = flow_of p q i f same read in
    record { flow = good_flow p i f (subst IsGood same good) there; ring = subst (λ (x : Flow). IsRing p x ring) (flow_is p i f f there) (is f) }

pub nonzero_div-at : goal.nonzero_div-at
nonzero_div-at g c =
    let is = flow_ring c.args.checked.now c.plan.result.now c.args.f c.at.result.now c.args.self.now c.plan.ensures.same c.plan.ensures.good c.at.ensures c.requires.ring in
    omega (arith, is.flow.payload.some_frames, c.from-frames.ensures)

pub nonzero_rem-at : goal.nonzero_rem-at
nonzero_rem-at g c =
    let is = flow_ring c.args.checked.now c.plan.result.now c.args.f c.at.result.now c.args.self.now c.plan.ensures.same c.plan.ensures.good c.at.ensures c.requires.ring in
    omega (arith, is.ring.some)

pub overflow_mul-at : goal.overflow_mul-at
overflow_mul-at g c =
    let ring = c.args.self.now in
    let f = c.at.result.now in
    let is = flow_ring c.args.checked.now c.plan.result.now c.args.f f ring c.plan.ensures.same c.plan.ensures.good c.at.ensures c.requires.ring in
    let slot = slot_place c.args.checked.now f ring (c.args.n / c.from-frames.result) 0 (length ring.octets.items) is.ring is.flow.payload.few_octets refl in
    let few = slot.few in
    omega arith

pub overflow_add-packet : goal.overflow_add-packet
overflow_add-packet g c =
    let ring = c.args.self.now in
    let f = c.at.result.now in
    let is = flow_ring c.args.checked.now c.plan.result.now c.args.f f ring c.plan.ensures.same c.plan.ensures.good c.at.ensures c.requires.ring in
    let slot = slot_place c.args.checked.now f ring (c.args.n / c.from-frames.result) 0 (length ring.octets.items) is.ring is.flow.payload.few_octets refl in
    let few = slot.few in
    omega arith

pub slice_bounds-packet-end : goal.slice_bounds-packet-end
slice_bounds-packet-end g c =
    let ring = c.args.self.now in
    let f = c.at.result.now in
    let is = flow_ring c.args.checked.now c.plan.result.now c.args.f f ring c.plan.ensures.same c.plan.ensures.good c.at.ensures c.requires.ring in
    (slot_place c.args.checked.now f ring (c.args.n / c.from-frames.result) 0 (length c.as_mut_slice.result.now) is.ring is.flow.payload.few_octets (ap length c.as_mut_slice.ensures.value)).within

pub write_part-requires : goal.write_part-requires
write_part-requires g c =
    let p = c.args.checked.now in
    let ring = c.args.self.now in
    let f = c.at.result.now in
    let octets = c.as_mut_slice.result.now in
    let is = flow_ring p c.plan.result.now c.args.f f ring c.plan.ensures.same c.plan.ensures.good c.at.ensures c.requires.ring in
    let slot = slot_place p f ring (c.args.n / c.from-frames.result) 0 (length octets) is.ring is.flow.payload.few_octets (ap length c.as_mut_slice.ensures.value) in
    let at : ℕ = c.args.n / c.from-frames.result % ring.count * ring.size in
    let within = slot.within in
    let left = length-drop at octets in
    let size = length-take-le (at + ring.size - at) (drop at octets) (omega arith) in
    let room = room_in p f ring is.ring in
    let bound : 22 + payload_octets p f ≤ length (take (at + ring.size - at) (drop at octets)) = omega arith in
    let there = flow_of p c.plan.result.now c.args.f f c.plan.ensures.same c.at.ensures in
    (omega arith, (c.requires.flow, ((λ d. subst (λ (x : Flow). 22 + payload_octets p x ≤ length (take (at + ring.size - at) (drop at octets))) (sym (flow_is p c.args.f f d there)) bound), (c.requires.word, c.requires.comma))))

-- the octets of a list that was written through a slice
refilled : (p : Plan) (f : Flow) (ring : PacketRing) (i : ℕ) (octets packet : List ℕ) → IsRing p f ring → HasPayload p f → octets ≡ ring.octets.items
    → length packet ≡ length (take (i % ring.count * ring.size + ring.size - i % ring.count * ring.size) (drop (i % ring.count * ring.size) octets))
    → (with_items ring.octets (put_mid (i % ring.count * ring.size) (i % ring.count * ring.size + ring.size - i % ring.count * ring.size) octets packet)).items
    ≡ put_mid (i % ring.count * ring.size) (i % ring.count * ring.size + ring.size - i % ring.count * ring.size) octets packet
refilled p f ring i octets packet is flow same long =
    let at : ℕ = i % ring.count * ring.size in
    let width : ℕ = at + ring.size - at in
    let within = (slot_place p f ring i 0 (length octets) is flow.few_octets (ap length same)).within in
    let left = length-drop at octets in
    let size = length-take-le width (drop at octets) (omega arith) in
    let all = length-mid at width octets packet (omega arith) (long ∙ size) in
    items-written (put_mid at width octets packet) ring.octets.items ring.octets.len (all ∙ ap length same) ring.octets.ok.0

-- what is written
written : (p q : Plan) (i frames n : ℕ) (f : Flow) (rd : Rd) (frame packet octets : List ℕ) (ring new : PacketRing) → q ≡ p → IsGood q → slice_get q.flows i ≡ Some f
    → HoldsAt (λ flow. IsRing p flow ring) p.flows i → frames ≡ f.frames → octets ≡ ring.octets.items → new.size ≡ ring.size → new.count ≡ ring.count
    → (let at = n / frames % ring.count * ring.size in (new.octets.items ≡ put_mid at (at + ring.size - at) octets packet) × HoldsAt (λ flow. WritesPart p flow n rd frame (take (at + ring.size - at) (drop at octets)) packet) p.flows i)
    → IsWritten p f n rd frame ring new
written p q i frames n f rd frame packet octets ring new same good read ring_is count value size_is count_is (put, part) =
    let is = flow_ring p q i f ring same good read ring_is in
    let at : ℕ = n / frames % ring.count * ring.size in
    let width : ℕ = at + ring.size - at in
    let there = flow_of p q i f same read in
    written_at p f n rd frame packet octets at width ring new is.ring (ap (λ x. n / x % ring.count * ring.size) count) (omega arith) value size_is count_is put
    (subst (λ (x : Flow). WritesPart p x n rd frame (take width (drop at octets)) packet) (flow_is p i f f there) (part f))

pub returns-clause-ring : goal.returns-clause-ring
returns-clause-ring g c d =
    let p = c.args.checked.now in
    let q = c.plan.result.now in
    let ring = c.args.self.now in
    let f = c.at.result.now in
    let i : ℕ = c.args.f in
    let at : ℕ = c.args.n / c.from-frames.result % ring.count * ring.size in
    let new : PacketRing = record { size = ring.size; count = ring.count; octets = with_items ring.octets (put_mid at (at + ring.size - at) c.as_mut_slice.result.now c.write_part.new.packet) } in
    let is = flow_ring p q i f ring c.plan.ensures.same c.plan.ensures.good c.at.ensures c.requires.ring in
    let items = refilled p f ring (c.args.n / c.from-frames.result) c.as_mut_slice.result.now c.write_part.new.packet is.ring is.flow.payload c.as_mut_slice.ensures.value c.write_part.auto.packet in
    let whole = written p q i c.from-frames.result c.args.n f c.args.rd c.args.frame.now c.write_part.new.packet c.as_mut_slice.result.now ring new c.plan.ensures.same c.plan.ensures.good c.at.ensures c.requires.ring
    c.from-frames.ensures c.as_mut_slice.ensures.value refl refl (items, c.write_part.ensures.part) in
    subst (λ (x : Flow). IsRing p x new) (sym (flow_is p i f d (flow_of p q i f c.plan.ensures.same c.at.ensures))) whole.ring

pub returns-clause-part : goal.returns-clause-part
returns-clause-part g c d =
    let p = c.args.checked.now in
    let q = c.plan.result.now in
    let ring = c.args.self.now in
    let f = c.at.result.now in
    let i : ℕ = c.args.f in
    let at : ℕ = c.args.n / c.from-frames.result % ring.count * ring.size in
    let new : PacketRing = record { size = ring.size; count = ring.count; octets = with_items ring.octets (put_mid at (at + ring.size - at) c.as_mut_slice.result.now c.write_part.new.packet) } in
    let is = flow_ring p q i f ring c.plan.ensures.same c.plan.ensures.good c.at.ensures c.requires.ring in
    let items = refilled p f ring (c.args.n / c.from-frames.result) c.as_mut_slice.result.now c.write_part.new.packet is.ring is.flow.payload c.as_mut_slice.ensures.value c.write_part.auto.packet in
    let whole = written p q i c.from-frames.result c.args.n f c.args.rd c.args.frame.now c.write_part.new.packet c.as_mut_slice.result.now ring new c.plan.ensures.same c.plan.ensures.good c.at.ensures c.requires.ring
    c.from-frames.ensures c.as_mut_slice.ensures.value refl refl (items, c.write_part.ensures.part) in
    subst (λ (x : Flow). PutsPart p x c.args.n c.args.rd c.args.frame.now ring new) (sym (flow_is p i f d (flow_of p q i f c.plan.ensures.same c.at.ensures))) whole.part
