use Rattle.std.proofs.Common.{sym, ◌∙◌, ap, arith}
use Rattle.std.proofs.lemmas.Result.{err_from_is_err_and}
use Rattle.toml.specs.View.{view, items_view}
use Rattle.carrier_plan.specs.PlanOf.{carrier_of, all_from, IsFaultOf}
use Rattle.carrier_plan.proofs.Elements.{with_front-nil, with_front_more, with_front_stop, with_front_all}
use Rattle.carrier_plan.proofs.reading.carriers_from.Goals as goal

pub loop-place-init : goal.loop-place-init
loop-place-init c = rw c.new-carriers.ensures (with_front-nil (all_from (carrier_of c.args.version) 0 (items_view c.args.values.now)))

pub returns-in_err-carrier_of : goal.returns-in_err-carrier_of
returns-in_err-carrier_of c =
    let value = c.index-values-place.result in
    let bad : IsFaultOf ((carrier_of c.args.version) c.loop-place.place (view value)) c.in_err-carrier_of.field-0.0 = rw (← c.in-Ok.ensures.1) c.in_err-carrier_of.ensures in
    let fault = with_front_stop (carrier_of c.args.version) c.args.values.now c.loop-place.place value c.loop-place.carriers c.in_err-carrier_of.field-0.0 (omega arith) c.index-values-place.is bad in
    let p = err_from_is_err_and c.from_residual.result c.from_residual.ensures.1 in
    rw (p.1, p.2, ← c.loop-place.invariant) fault

pub loop-place-preserved : goal.loop-place-preserved
loop-place-preserved c =
    let value = c.index-values-place.result in
    let good = sym c.in_ok-carrier_of.ensures ∙ ap (λ i. carrier_of c.args.version i (view value)) c.in-Ok.ensures.1 in
    rw c.in_ok-push.ensures.ok (with_front_more (carrier_of c.args.version) c.args.values.now c.loop-place.place value c.loop-place.carriers c.in_ok-carrier_of.field-0 (omega arith) c.index-values-place.is good ∙ c.loop-place.invariant)

pub returns : goal.returns
returns c = sym c.loop-place.invariant ∙ with_front_all (carrier_of c.args.version) c.args.values.now c.loop-place.place c.loop-place.carriers (omega arith)
