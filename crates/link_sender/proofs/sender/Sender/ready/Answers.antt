use Rattle.std.proofs.Common.{◌≡◌, ℕ, ◌+◌, ◌≤◌, length, List, slice_get, Option, Some, None, refl, sym, ap, ◌∙◌, subst, arith}
use Rattle.std.specs.Option.{MatchOption}
use Rattle.std.proofs.lemmas.Option.{get_or_from_slice_get}
use Rattle.carrier_plan.specs.declared.plan.Flow.{Flow}
use Rattle.link_base.specs.Window.{last_frame}
use Rattle.plan_checker.specs.Packets.{run_packets}
use Rattle.link_sender.specs.Packets.{IsPacket}
use Rattle.link_sender.specs.Senders.{OpensBefore, SenderView, StandsFor}
use Rattle.link_sender.specs.Stream.{Stream}
use Rattle.link_sender.proofs.GoodFlows.{flow_of, good_flow}
use Rattle.link_sender.proofs.ReadySteps.{no_other, one_flow, packet_few, packet_ready, ring_of}
use Rattle.link_sender.proofs.sender.Sender.ready.Goals as goal

pub opened_before-requires : goal.opened_before-requires
opened_before-requires g c =
    let s : SenderView = record {
      plan = c.self.inside.checked;
      frames = c.self.inside.frames;
      announcement = c.self.inside.announce;
      tick = c.self.inside.next;
      handed = c.self.inside.handed.items;
      carriers = c.self.inside.carriers.items;
      slow = c.self.inside.channels.slow;
      fast = c.self.inside.channels.fast;
      frame = c.self.inside.frame;
      octets = c.self.inside.octets.items;
      rd = c.self.inside.rd;
      rings = c.self.inside.rings.items;
    } in
    let is = c.self.invariant.0 in
    let f = c.at.result.now in
    let read = flow_of s.plan c.plan.result.now c.args.f f c.plan.ensures.same c.at.ensures in
    (good_flow s.plan c.args.f f is.good read).payload.some_frames

pub packet-requires-clause-count : goal.packet-requires-clause-count
packet-requires-clause-count g c =
    let s : SenderView = record {
      plan = c.self.inside.checked;
      frames = c.self.inside.frames;
      announcement = c.self.inside.announce;
      tick = c.self.inside.next;
      handed = c.self.inside.handed.items;
      carriers = c.self.inside.carriers.items;
      slow = c.self.inside.channels.slow;
      fast = c.self.inside.channels.fast;
      frame = c.self.inside.frame;
      octets = c.self.inside.octets.items;
      rd = c.self.inside.rd;
      rings = c.self.inside.rings.items;
    } in
    let is = c.self.invariant.0 in
    let f = c.at.result.now in
    let read = flow_of s.plan c.plan.result.now c.args.f f c.plan.ensures.same c.at.ensures in
    (ring_of s is c.args.f f read c.in-Some.number c.in-Some.ensures c.index.result.now (sym c.index.ensures)).some

pub packet-requires-clause-room : goal.packet-requires-clause-room
packet-requires-clause-room g c =
    let s : SenderView = record {
      plan = c.self.inside.checked;
      frames = c.self.inside.frames;
      announcement = c.self.inside.announce;
      tick = c.self.inside.next;
      handed = c.self.inside.handed.items;
      carriers = c.self.inside.carriers.items;
      slow = c.self.inside.channels.slow;
      fast = c.self.inside.channels.fast;
      frame = c.self.inside.frame;
      octets = c.self.inside.octets.items;
      rd = c.self.inside.rd;
      rings = c.self.inside.rings.items;
    } in
    let is = c.self.invariant.0 in
    let f = c.at.result.now in
    let read = flow_of s.plan c.plan.result.now c.args.f f c.plan.ensures.same c.at.ensures in
    (ring_of s is c.args.f f read c.in-Some.number c.in-Some.ensures c.index.result.now (sym c.index.ensures)).whole

pub returns-then-number-packets-clause-packet : goal.returns-then-number-packets-clause-packet
returns-then-number-packets-clause-packet g c =
    let s : SenderView = record {
      plan = c.self.inside.checked;
      frames = c.self.inside.frames;
      announcement = c.self.inside.announce;
      tick = c.self.inside.next;
      handed = c.self.inside.handed.items;
      carriers = c.self.inside.carriers.items;
      slow = c.self.inside.channels.slow;
      fast = c.self.inside.channels.fast;
      frame = c.self.inside.frame;
      octets = c.self.inside.octets.items;
      rd = c.self.inside.rd;
      rings = c.self.inside.rings.items;
    } in
    let is = c.self.invariant.0 in
    let f = c.at.result.now in
    let read = flow_of s.plan c.plan.result.now c.args.f f c.plan.ensures.same c.at.ensures in
    let number : ℕ = c.in-Some.number in
    let packets : c.packets.result ≡ run_packets s.plan f s.frames = c.packets.ensures f ∙ ap (λ (x : Flow). run_packets s.plan x s.frames) (get_or_from_slice_get s.plan.flows c.args.f f f read) in
    let opens : OpensBefore s.plan s.frames f s.tick number = record { in_run = omega (arith, packets, c.if-number-packets.true); opens = c.in-Some.ensures } in
    let slot = c.packet.ensures in
    subst (λ (v : SenderView). (flow : Flow) → slice_get v.plan.flows c.args.f ≡ Some flow → (x : ℕ) × OpensBefore v.plan v.frames flow v.tick x × ((σ : Stream) → StandsFor v σ → IsPacket v.plan σ flow x c.packet.result.now)) c.self.view_is
    (λ flow there.
    let same = one_flow s.plan c.args.f f flow read there in (
      number,
      subst (λ (x : Flow). OpensBefore s.plan s.frames x s.tick number) same opens,
      λ σ stands.
          subst (λ (x : Flow). IsPacket s.plan σ x number c.packet.result.now) same
          (subst (IsPacket s.plan σ f number) (sym slot) (packet_ready s is c.args.f f read number c.in-Some.ensures c.index.result.now (sym c.index.ensures) σ stands)),
    ))

pub returns-then-number-packets-clause-few : goal.returns-then-number-packets-clause-few
returns-then-number-packets-clause-few g c =
    let s : SenderView = record {
      plan = c.self.inside.checked;
      frames = c.self.inside.frames;
      announcement = c.self.inside.announce;
      tick = c.self.inside.next;
      handed = c.self.inside.handed.items;
      carriers = c.self.inside.carriers.items;
      slow = c.self.inside.channels.slow;
      fast = c.self.inside.channels.fast;
      frame = c.self.inside.frame;
      octets = c.self.inside.octets.items;
      rd = c.self.inside.rd;
      rings = c.self.inside.rings.items;
    } in
    let is = c.self.invariant.0 in
    let f = c.at.result.now in
    let read = flow_of s.plan c.plan.result.now c.args.f f c.plan.ensures.same c.at.ensures in
    subst (λ (octets : List ℕ). length octets ≤ 1514) (sym c.packet.ensures) (packet_few s is c.args.f f read c.in-Some.number c.in-Some.ensures c.index.result.now (sym c.index.ensures))

pub returns-else-number-packets-clause-packet : goal.returns-else-number-packets-clause-packet
returns-else-number-packets-clause-packet g c =
    let s : SenderView = record {
      plan = c.self.inside.checked;
      frames = c.self.inside.frames;
      announcement = c.self.inside.announce;
      tick = c.self.inside.next;
      handed = c.self.inside.handed.items;
      carriers = c.self.inside.carriers.items;
      slow = c.self.inside.channels.slow;
      fast = c.self.inside.channels.fast;
      frame = c.self.inside.frame;
      octets = c.self.inside.octets.items;
      rd = c.self.inside.rd;
      rings = c.self.inside.rings.items;
    } in
    let is = c.self.invariant.0 in
    let f = c.at.result.now in
    let read = flow_of s.plan c.plan.result.now c.args.f f c.plan.ensures.same c.at.ensures in
    let packets : c.packets.result ≡ run_packets s.plan f s.frames = c.packets.ensures f ∙ ap (λ (x : Flow). run_packets s.plan x s.frames) (get_or_from_slice_get s.plan.flows c.args.f f f read) in
    subst (λ (v : SenderView). (flow : Flow) → slice_get v.plan.flows c.args.f ≡ Some flow → (i : ℕ) → ¬ OpensBefore v.plan v.frames flow v.tick i) c.self.view_is
    (λ flow there i opens.
    let same = one_flow s.plan c.args.f f flow read there in
    let here = subst (λ (x : Flow). OpensBefore s.plan s.frames x s.tick i) (sym same) opens in
    let one = no_other s is c.args.f f read c.in-Some.number c.in-Some.ensures i here.opens in
    omega (arith, one, here.in_run, packets, c.if-number-packets.false))

not_found : (r : Option ℕ) (P : Type 0) (Q : ℕ → Type 0) → MatchOption r P Q → ((x : ℕ) → r ≡ Some x → ⊥) → P
not_found None P Q holds none = holds
not_found (Some x) P Q holds none = absurd (none x refl)

pub returns-in_default-clause-packet : goal.returns-in_default-clause-packet
returns-in_default-clause-packet g c =
    let s : SenderView = record {
      plan = c.self.inside.checked;
      frames = c.self.inside.frames;
      announcement = c.self.inside.announce;
      tick = c.self.inside.next;
      handed = c.self.inside.handed.items;
      carriers = c.self.inside.carriers.items;
      slow = c.self.inside.channels.slow;
      fast = c.self.inside.channels.fast;
      frame = c.self.inside.frame;
      octets = c.self.inside.octets.items;
      rd = c.self.inside.rd;
      rings = c.self.inside.rings.items;
    } in
    let is = c.self.invariant.0 in
    let f = c.at.result.now in
    let read = flow_of s.plan c.plan.result.now c.args.f f c.plan.ensures.same c.at.ensures in
    let none = not_found c.opened_before.result ((i : ℕ) → ¬ (last_frame f.frames i + f.lmin + 1 ≡ s.tick)) (λ i. last_frame f.frames i + f.lmin + 1 ≡ s.tick) c.opened_before.ensures c.in_default.not-Some in
    subst (λ (v : SenderView). (flow : Flow) → slice_get v.plan.flows c.args.f ≡ Some flow → (i : ℕ) → ¬ OpensBefore v.plan v.frames flow v.tick i) c.self.view_is
    (λ flow there i opens.
    let same = one_flow s.plan c.args.f f flow read there in
    let here = subst (λ (x : Flow). OpensBefore s.plan s.frames x s.tick i) (sym same) opens in
    none i here.opens)
