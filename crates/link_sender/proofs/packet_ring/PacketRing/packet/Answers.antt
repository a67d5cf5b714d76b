use Rattle.std.proofs.Common.{◌≡◌, ℕ, ◌+◌, ◌-◌, ◌*◌, ◌%◌, take, drop, ap, ◌∙◌, arith}
use Rattle.link_sender.specs.Rings.{slot_at}
use Rattle.link_sender.proofs.packet_ring.PacketRing.packet.Goals as goal

pub returns : goal.returns
unfolding slot_at
returns c =
    let ring = c.args.self.now in
    let at : ℕ = c.args.number % ring.count * ring.size in
    let width : at + ring.size - at ≡ ring.size = omega arith in
    ap (λ n. take n (drop at c.as_slice.result.now)) width ∙ ap (λ octets. take ring.size (drop at octets)) c.as_slice.ensures.value
