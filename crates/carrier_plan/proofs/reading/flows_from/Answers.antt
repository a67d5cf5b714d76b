use Rattle.std.proofs.Common.{sym, ◌∙◌, ap, arith}
use Rattle.std.proofs.lemmas.Result.{err_from_is_err_and}
use Rattle.toml.specs.View.{view, items_view}
use Rattle.carrier_plan.specs.PlanOf.{flow_of, all_from, IsFaultOf}
use Rattle.carrier_plan.proofs.Elements.{with_front-nil, with_front_more, with_front_stop, with_front_all}
use Rattle.carrier_plan.proofs.reading.flows_from.Goals as goal

pub loop-place-init : goal.loop-place-init
loop-place-init c = rw c.new-flows.ensures (with_front-nil (all_from flow_of 0 (items_view c.args.values.now)))

pub returns-in_err-flow_of : goal.returns-in_err-flow_of
returns-in_err-flow_of c =
    let value = c.index-values-place.result in
    let bad : IsFaultOf (flow_of c.loop-place.place (view value)) c.in_err-flow_of.field-0.0 = rw (← c.in-Ok.ensures.1) c.in_err-flow_of.ensures in
    let fault = with_front_stop flow_of c.args.values.now c.loop-place.place value c.loop-place.flows c.in_err-flow_of.field-0.0 (omega arith) c.index-values-place.is bad in
    let p = err_from_is_err_and c.from_residual.result c.from_residual.ensures.1 in
    rw (p.1, p.2, ← c.loop-place.invariant) fault

pub loop-place-preserved : goal.loop-place-preserved
loop-place-preserved c =
    let value = c.index-values-place.result in
    let good = sym c.in_ok-flow_of.ensures ∙ ap (λ i. flow_of i (view value)) c.in-Ok.ensures.1 in
    rw c.in_ok-push.ensures.ok (with_front_more flow_of c.args.values.now c.loop-place.place value c.loop-place.flows c.in_ok-flow_of.field-0 (omega arith) c.index-values-place.is good ∙ c.loop-place.invariant)

pub returns : goal.returns
returns c = sym c.loop-place.invariant ∙ with_front_all flow_of c.args.values.now c.loop-place.place c.loop-place.flows (omega arith)
