use Rattle.std.proofs.Common.{rules, ◌∙◌, ap}
use Rattle.toml.specs.View.{table_view}
use Rattle.carrier_plan.specs.PlanOf.{number_at}
use Rattle.carrier_plan.proofs.Flows.{numbering_fault}
use Rattle.carrier_plan.proofs.reading.numbering_in.Goals as goal

pub returns-in_err-q : goal.returns-in_err-q
returns-in_err-q c =
    let keys = table_view c.args.table.now in
    let first = c.in_ok-cap.ensures ∙ ap (number_at keys) c.of_flow.ensures in
    let second = c.in_ok-p.ensures ∙ ap (number_at keys) c.of_flow-2.ensures in
    let third = c.in_err-q.ensures ∙ ap (number_at keys) c.of_flow-3.ensures in
    rw (numbering_fault c.args.i keys c.in_ok-cap.cap c.in_ok-p.p c.in_err-q.field-0.0 first second third) (search rules)
