use Rattle.std.proofs.Common.{◌≡◌, ℕ, ◌*◌, ◌≤◌, List, length, replicate, slice_get, Some, sym, ap, ◌∙◌, subst, arith}
use Rattle.std.proofs.lemmas.List.{length-replicate}
use Rattle.carrier_plan.specs.declared.plan.Flow.{Flow}
use Rattle.carrier_plan.specs.declared.plan.Mode.{Mode}
use Rattle.carrier_plan.specs.declared.plan.Plan.{Plan}
use Rattle.plan_checker.specs.Packets.{subtype_of}
use Rattle.plan_checker.specs.Rules.{IsGood}
use Rattle.plan_checker.specs.Run.{frame_octets_of}
use Rattle.roe_header.specs.Layout.{packet_octets}
use Rattle.link_sender.specs.Rings.{IsBlank, payload_octets}
use Rattle.link_sender.proofs.GoodFlows.{IsGoodFlow, flow_is, flow_of, good_flow}
use Rattle.link_sender.proofs.packet_ring.blank_packet.Goals as goal

payload_is : (p : Plan) (i octets : ℕ) (f : Flow) → IsGoodFlow p i f → octets ≡ frame_octets_of p i → f.frames * octets ≡ payload_octets p f
payload_is p i octets f is read = ap (λ n. f.frames * n) (read ∙ is.octets)

pub overflow_mul-size : goal.overflow_mul-size
overflow_mul-size c =
    let p = c.args.checked.now in
    let f = c.at-flow.result.now in
    let same = c.plan-plan.ensures.same in
    let is = good_flow p c.args.f f (subst IsGood same c.plan-plan.ensures.good) (flow_of p c.plan-plan.result.now c.args.f f same c.at-flow.ensures) in
    let size = payload_is p c.args.f c.frame_octets.result f is c.frame_octets.ensures in
    let few = is.payload.few_octets in
    omega arith

pub packet_with-requires-clause-id : goal.packet_with-requires-clause-id
packet_with-requires-clause-id c =
    let p = c.args.checked.now in
    let f = c.at-flow.result.now in
    let same = c.plan-plan.ensures.same in
    (good_flow p c.args.f f (subst IsGood same c.plan-plan.ensures.good) (flow_of p c.plan-plan.result.now c.args.f f same c.at-flow.ensures)).id

-- the octets of the payload
few : (p q : Plan) (i octets : ℕ) (f : Flow) → q ≡ p → IsGood q → slice_get q.flows i ≡ Some f → octets ≡ frame_octets_of p i → f.frames * octets ≤ 1492
few p q i octets f same good read is =
    let one = good_flow p i f (subst IsGood same good) (flow_of p q i f same read) in
    omega (arith, payload_is p i octets f one is, one.payload.few_octets)

pub zeros-requires : goal.zeros-requires
zeros-requires c = few c.args.checked.now c.plan-plan.result.now c.args.f c.frame_octets.result c.at-flow.result.now c.plan-plan.ensures.same c.plan-plan.ensures.good c.at-flow.ensures c.frame_octets.ensures

pub packet_with-requires-clause-payload : goal.packet_with-requires-clause-payload
packet_with-requires-clause-payload c =
    let small = few c.args.checked.now c.plan-plan.result.now c.args.f c.frame_octets.result c.at-flow.result.now c.plan-plan.ensures.same c.plan-plan.ensures.good c.at-flow.ensures c.frame_octets.ensures in
    let size = ap length (c.as_slice.ensures.value ∙ c.in_ok-payload.ensures) in
    let count = length-replicate {A = ℕ} (c.at-flow.result.now.frames * c.frame_octets.result) 0 in
    omega arith

pub returns : goal.returns
returns c d =
    let p = c.args.checked.now in
    let q = c.plan-plan.result.now in
    let f = c.at-flow.result.now in
    let i : ℕ = c.args.f in
    let same = c.plan-plan.ensures.same in
    let read = flow_of p q i f same c.at-flow.ensures in
    let one = good_flow p i f (subst IsGood same c.plan-plan.ensures.good) read in
    let with : Mode → List ℕ → List ℕ = λ mode payload. packet_octets (record { dst = f.dst; src = f.src; sub = subtype_of mode; flow = f.id; seq = 0; payload = payload }) in
    let zeros = c.as_slice.ensures.value ∙ c.in_ok-payload.ensures ∙ ap (λ n. replicate n 0) (payload_is p i c.frame_octets.result f one c.frame_octets.ensures) in
    let blank : IsBlank p f c.packet_with.result.items = record {
      is = c.packet_with.ensures.packet ∙ ap (with q.mode) zeros ∙ ap (λ (x : Plan). with x.mode (replicate (payload_octets p f) 0)) same;
      dst = c.packet_with.ensures.dst;
      src = c.packet_with.ensures.src;
    } in
    subst (λ (x : Flow). IsBlank p x c.packet_with.result.items) (sym (flow_is p i f d read)) blank
