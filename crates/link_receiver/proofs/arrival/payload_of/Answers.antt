use Rattle.std.proofs.Common.{◌≡◌, ◌==◌, Some, slice_get, position, sym, ap, ◌∙◌, subst, arith}
use Rattle.carrier_plan.specs.declared.plan.Flow.{Flow}
use Rattle.carrier_plan.specs.declared.plan.Plan.{Plan}
use Rattle.plan_checker.specs.Packets.{subtype_of}
use Rattle.plan_checker.specs.Rules.{IsGood}
use Rattle.roe_header.specs.Layout.{fields}
use Rattle.link_receiver.proofs.Arriving.{no_flow, octets_of_payload, of_flow, other_size}
use Rattle.link_receiver.proofs.arrival.payload_of.Goals as goal

pub returns-in_default : goal.returns-in_default
returns-in_default c =
    let same = c.plan-plan.ensures.same in
    no_flow c.args.checked.now (fields c.args.packet.now) (subst IsGood same c.plan-plan.ensures.good)
    (c.if-packet-subtype_of.false ∙ c.subtype_of.ensures ∙ ap (λ (p : Plan). subtype_of p.mode) same)
    (ap (λ (p : Plan). position (λ (f : Flow). f.id == c.args.packet.now.flow) p.flows) (sym same) ∙ sym c.flow_with_id.ensures ∙ c.in_default.is)

pub overflow_mul-octets : goal.overflow_mul-octets
overflow_mul-octets c =
    let same = c.plan-plan.ensures.same in
    let few = octets_of_payload c.args.checked.now c.in-Some.flow c.at.result.now c.frame_octets.result (subst IsGood same c.plan-plan.ensures.good)
    (subst (λ (p : Plan). slice_get p.flows c.in-Some.flow ≡ Some c.at.result.now) same c.at.ensures) c.frame_octets.ensures in
    record { fits = omega (arith, few.1) }

pub overflow_cast-result : goal.overflow_cast-result
overflow_cast-result c =
    let same = c.plan-plan.ensures.same in
    let few = octets_of_payload c.args.checked.now c.in-Some.flow c.at.result.now c.frame_octets.result (subst IsGood same c.plan-plan.ensures.good)
    (subst (λ (p : Plan). slice_get p.flows c.in-Some.flow ≡ Some c.at.result.now) same c.at.ensures) c.frame_octets.ensures in
    record { fits = omega (arith, few.2) }

pub returns-then-packet-octets : goal.returns-then-packet-octets
returns-then-packet-octets c =
    let same = c.plan-plan.ensures.same in
    other_size c.args.checked.now (fields c.args.packet.now) (subst IsGood same c.plan-plan.ensures.good) c.in-Some.flow c.at.result.now c.frame_octets.result
    (c.if-packet-subtype_of.false ∙ c.subtype_of.ensures ∙ ap (λ (p : Plan). subtype_of p.mode) same)
    (ap (λ (p : Plan). position (λ (f : Flow). f.id == c.args.packet.now.flow) p.flows) (sym same) ∙ sym c.flow_with_id.ensures ∙ c.in-Some.is)
    (subst (λ (p : Plan). slice_get p.flows c.in-Some.flow ≡ Some c.at.result.now) same c.at.ensures) c.frame_octets.ensures c.if-packet-octets.true

pub returns : goal.returns
returns c =
    let same = c.plan-plan.ensures.same in
    of_flow c.args.checked.now (fields c.args.packet.now) (subst IsGood same c.plan-plan.ensures.good) c.in-Some.flow c.at.result.now c.frame_octets.result
    (c.if-packet-subtype_of.false ∙ c.subtype_of.ensures ∙ ap (λ (p : Plan). subtype_of p.mode) same)
    (ap (λ (p : Plan). position (λ (f : Flow). f.id == c.args.packet.now.flow) p.flows) (sym same) ∙ sym c.flow_with_id.ensures ∙ c.in-Some.is)
    (subst (λ (p : Plan). slice_get p.flows c.in-Some.flow ≡ Some c.at.result.now) same c.at.ensures) c.frame_octets.ensures c.if-packet-octets.false
