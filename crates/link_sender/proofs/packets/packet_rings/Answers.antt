use Rattle.std.proofs.Common.{◌≡◌, ◌+◌, ℕ, length, Some, slice_get, sym, ap, subst, arith}
use Rattle.std.proofs.lemmas.Option.{slice_get_within}
use Rattle.carrier_plan.specs.declared.plan.Flow.{Flow}
use Rattle.carrier_plan.specs.declared.plan.Plan.{Plan}
use Rattle.plan_checker.proofs.Places.{at_place}
use Rattle.link_sender.specs.Rings.{IsRing}
use Rattle.link_sender.specs.declared.packet_ring.PacketRing.{PacketRing}
use Rattle.link_sender.proofs.Items.{Fills, fills-none, fills-push}
use Rattle.link_sender.proofs.packets.packet_rings.Goals as goal

pub loop-f-init : goal.loop-f-init
loop-f-init c =
    let is_ring : ℕ → PacketRing → Type 0 = λ i ring. (f : Flow) → slice_get c.args.checked.now.flows i ≡ Some f → IsRing c.args.checked.now f ring in
    subst (Fills is_ring 0) (sym c.in_ok-rings.ensures.items) (fills-none is_ring)

pub loop-f-preserved : goal.loop-f-preserved
loop-f-preserved c =
    let p = c.args.checked.now in
    let is_ring : ℕ → PacketRing → Type 0 = λ i ring. (f : Flow) → slice_get p.flows i ≡ Some f → IsRing p f ring in
    subst (Fills is_ring (c.loop-f.f + 1)) (sym c.in_ok-push.ensures.items)
    (fills-push is_ring c.loop-f.f c.loop-f.rings.items c.in_ok-begin.field-0 c.loop-f.invariant
    (λ f read. at_place (λ (x : Flow). IsRing p x c.in_ok-begin.field-0) p.flows c.loop-f.f f read c.in_ok-begin.ensures))

pub returns : goal.returns
returns c =
    let same = ap (λ (p : Plan). length p.flows) c.plan.ensures.same in
    let is = c.loop-f.invariant in
    let count = c.len-flows.ensures in
    record {
      as_many = omega (arith, is.as_many, same, count, c.loop-f-test.false, c.loop-f.auto.f-end);
      each = λ i f read. let inside = slice_get_within c.args.checked.now.flows i f read in λ d. is.each i (omega (arith, inside, same, count, c.loop-f-test.false)) d f read;
    }
