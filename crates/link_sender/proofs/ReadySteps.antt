-- The packets that a sender has ready.
use Rattle.std.proofs.Common.{◌≡◌, ℕ, ◌+◌, ◌*◌, ◌%◌, ◌≤◌, length, get_or, slice_get, Some, sym, ◌∙◌, subst, arith, inl, inr}
use Rattle.std.proofs.lemmas.Bool.{cases_lt}
use Rattle.std.proofs.lemmas.List.{length-replicate}
use Rattle.std.proofs.lemmas.Nat.{mod_below, mul-le}
use Rattle.carrier_plan.specs.declared.plan.Flow.{Flow}
use Rattle.carrier_plan.specs.declared.plan.Plan.{Plan}
use Rattle.link_base.specs.Window.{last_frame}
use Rattle.link_sender.specs.Packets.{IsPacket}
use Rattle.link_sender.specs.Rings.{IsRing, blank_fields, payload_octets, slot_of}
use Rattle.link_sender.specs.Senders.{IsSender, SenderView, StandsFor, StandsForPackets}
use Rattle.link_sender.specs.Stream.{Stream}
use Rattle.link_sender.specs.declared.packet_ring.PacketRing.{PacketRing}
use Rattle.link_sender.proofs.GoodFlows.{good_flow}
use Rattle.link_sender.proofs.Openings.{opened_once}
use Rattle.link_sender.proofs.PacketOctets.{most-packet}
use Rattle.link_sender.proofs.PacketSteps.{IsPacket-slot}

-- the flow at a place
pub one_flow : (p : Plan) (i : ℕ) (x y : Flow) → slice_get p.flows i ≡ Some x → slice_get p.flows i ≡ Some y → x ≡ y
one_flow p i x y first second = let same : Some x ≡ Some y = sym first ∙ second in cc

-- only one packet's window opens at a tick
pub same_number : (frames i j : ℕ) → 1 ≤ frames → (i + 1) * frames ≡ (j + 1) * frames → i ≡ j
same_number frames i j some same =
    elim (cases_lt i j) [
      | inl less ↦ absurd (let product = mul-le (i + 2) frames (j + 1) frames (omega arith) (omega arith) in omega (arith, same, product))
      | inr more ↦ elim (cases_lt j i) [
        | inl less ↦ absurd (let product = mul-le (j + 2) frames (i + 1) frames (omega arith) (omega arith) in omega (arith, same, product))
        | inr equal ↦ omega arith
      ]
    ]

module _ (s : SenderView) (is : IsSender s) (i : ℕ) (f : Flow) (read : slice_get s.plan.flows i ≡ Some f) (number : ℕ) (opens : last_frame f.frames number + f.lmin + 1 ≡ s.tick) where
  pub ring_of : (h : PacketRing) → get_or s.rings i h ≡ h → IsRing s.plan f h
  ring_of h same = subst (IsRing s.plan f) same (is.rings.each i f read h)

  pub packet_ready : (h : PacketRing) → get_or s.rings i h ≡ h → (σ : Stream) → StandsFor s σ → IsPacket s.plan σ f number (slot_of h number)
  packet_ready h same σ stands =
      IsPacket-slot s.plan σ s.tick f h number (good_flow s.plan i f is.good read).payload.some_frames (ring_of h same)
      (subst (StandsForPackets s.plan σ s.tick f) same (stands.packets i f read h)) opens

  -- it has the octets of a blank packet of the flow
  pub packet_few : (h : PacketRing) → get_or s.rings i h ≡ h → length (slot_of h number) ≤ 1514
  packet_few h same =
      let ring = ring_of h same in
      let begun = ring.begun (number % h.count) (mod_below number h.count ring.some) in
      let payload = length-replicate {A = ℕ} (payload_octets s.plan f) 0 in
      let few = (good_flow s.plan i f is.good read).payload.few_octets in
      let most = most-packet (blank_fields s.plan f) ring.dst ring.src (omega (arith, payload, few)) in
      omega (arith, begun.size, most)

  pub no_other : (j : ℕ) → last_frame f.frames j + f.lmin + 1 ≡ s.tick → j ≡ number
  no_other j other =
      let some = (good_flow s.plan i f is.good read).payload.some_frames in
      same_number f.frames j number some (opened_once f.frames f.lmin s.tick j number some other opens)
