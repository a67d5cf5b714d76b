use Rattle.std.proofs.Common.{◌≡◌, ℕ, ◌+◌, slice_get, Some, sym, ap, ◌∙◌, subst, arith}
use Rattle.carrier_plan.specs.declared.plan.Flow.{Flow}
use Rattle.carrier_plan.specs.declared.plan.Plan.{Plan}
use Rattle.plan_checker.specs.Rules.{IsGood}
use Rattle.link_sender.specs.Rings.{IsBlank, IsRing}
use Rattle.link_sender.specs.declared.packet_ring.PacketRing.{PacketRing}
use Rattle.link_sender.proofs.GoodFlows.{IsGoodFlow, flow_is, flow_of, good_flow}
use Rattle.link_sender.proofs.RingSteps.{few_slots, ring_begun}
use Rattle.link_sender.proofs.packet_ring.PacketRing.begin.Goals as goal

one : (p q : Plan) (i : ℕ) (f : Flow) → q ≡ p → IsGood q → slice_get q.flows i ≡ Some f → IsGoodFlow p i f
one p q i f same good read = good_flow p i f (subst IsGood same good) (flow_of p q i f same read)

pub div_ceil-requires : goal.div_ceil-requires
div_ceil-requires c =
    let is = one c.args.checked.now c.plan.result.now c.args.f c.at-flow.result.now c.plan.ensures.same c.plan.ensures.good c.at-flow.ensures in
    omega (arith, is.payload.some_frames)

pub copies-requires-clause-few : goal.copies-requires-clause-few
copies-requires-clause-few c =
    let f = c.at-flow.result.now in
    let is = one c.args.checked.now c.plan.result.now c.args.f f c.plan.ensures.same c.plan.ensures.good c.at-flow.ensures in
    let few = few_slots f.lmin f.frames is.payload.some_frames (omega (arith, is.window.0, is.window.1)) in
    omega (arith, few, c.from-count.ensures, c.div_ceil.ensures)

pub copies-requires-clause-short : goal.copies-requires-clause-short
copies-requires-clause-short c = omega (arith, c.as_slice.ensures.fits)

pub returns : goal.returns
returns c d =
    let p = c.args.checked.now in
    let f = c.at-flow.result.now in
    let i : ℕ = c.args.f in
    let read = flow_of p c.plan.result.now i f c.plan.ensures.same c.at-flow.ensures in
    let is = one p c.plan.result.now i f c.plan.ensures.same c.plan.ensures.good c.at-flow.ensures in
    let blank = c.in_ok-blank.blank.items in
    let ring : PacketRing = record { size = c.len.result; count = c.from-count.result + 1; octets = c.in_ok-copies.field-0 } in
    let is_blank = subst (λ (x : Flow). IsBlank p x blank) (flow_is p i f d read) (c.in_ok-blank.ensures d) in
    subst (λ (x : Flow). IsRing p x ring) (sym (flow_is p i f d read))
    (ring_begun p f ring blank c.as_slice.result.now is_blank c.as_slice.ensures.value is.payload.some_frames (omega (arith, is.window.0, is.window.1))
    c.len.ensures.value (ap (λ n. n + 1) (c.from-count.ensures ∙ c.div_ceil.ensures)) c.in_ok-copies.ensures.length c.in_ok-copies.ensures.each)
