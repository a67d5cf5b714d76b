use Rattle.std.proofs.Common.{sym, ◌∙◌, arith}
use Rattle.std.proofs.lemmas.Result.{err_from_is_err_and}
use Rattle.toml.specs.View.{items_view}
use Rattle.carrier_plan.specs.PlanOf.{piece_of, all_from}
use Rattle.carrier_plan.proofs.Elements.{with_front-nil, with_front_more, with_front_fault, with_front_all}
use Rattle.carrier_plan.proofs.reading.pieces_in.Goals as goal

pub returns-in_err-piece_of : goal.returns-in_err-piece_of
returns-in_err-piece_of c =
    let fault = with_front_fault (λ _. piece_of c.args.spot) c.args.values.now c.loop-value.value-index c.value-item.result c.loop-value.pieces c.in_err-piece_of.field-0.0 (omega arith) c.value-item.is c.in_err-piece_of.ensures in
    let p = err_from_is_err_and c.from_residual.result c.from_residual.ensures.1 in
    rw (p.1, p.2) (sym c.loop-value.invariant ∙ fault)

pub loop-value-preserved : goal.loop-value-preserved
loop-value-preserved c =
    rw c.in_ok-push.ensures.ok (with_front_more (λ _. piece_of c.args.spot) c.args.values.now c.loop-value.value-index c.value-item.result c.loop-value.pieces c.in_ok-piece_of.field-0 (omega arith) c.value-item.is c.in_ok-piece_of.ensures ∙ c.loop-value.invariant)

pub loop-value-init : goal.loop-value-init
loop-value-init c = rw c.new-pieces.ensures (with_front-nil (all_from (λ _. piece_of c.args.spot) 0 (items_view c.args.values.now)))

pub returns : goal.returns
returns c = sym c.loop-value.invariant ∙ with_front_all (λ _. piece_of c.args.spot) c.args.values.now c.loop-value.value-index c.loop-value.pieces (omega arith)
