use Rattle.std.proofs.Common.{rules, ◌∙◌, ap}
use Rattle.toml.specs.View.{table_view}
use Rattle.carrier_plan.specs.PlanOf.{number_at, address_at}
use Rattle.carrier_plan.proofs.Flows.{ends_fault}
use Rattle.carrier_plan.proofs.reading.ends_in.Goals as goal

pub returns-in_err-src : goal.returns-in_err-src
returns-in_err-src c =
    let keys = table_view c.args.table.now in
    let first = c.in_ok-id.ensures ∙ ap (number_at keys) c.of_flow.ensures in
    let second = c.in_ok-dst.ensures ∙ ap (address_at keys) c.of_flow-2.ensures in
    let third = c.in_err-src.ensures ∙ ap (address_at keys) c.of_flow-3.ensures in
    rw (ends_fault c.args.i keys c.in_ok-id.id c.in_ok-dst.dst c.in_err-src.field-0.0 first second third) (search rules)
