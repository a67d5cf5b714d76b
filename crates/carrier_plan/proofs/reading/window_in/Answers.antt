use Rattle.std.proofs.Common.{rules, ◌∙◌, ap}
use Rattle.toml.specs.View.{table_view}
use Rattle.carrier_plan.specs.PlanOf.{number_at}
use Rattle.carrier_plan.proofs.Flows.{window_fault}
use Rattle.carrier_plan.proofs.reading.window_in.Goals as goal

pub returns-in_err-lmax : goal.returns-in_err-lmax
returns-in_err-lmax c =
    let keys = table_view c.args.table.now in
    let first = c.in_ok-frames.ensures ∙ ap (number_at keys) c.of_flow.ensures in
    let second = c.in_ok-lmin.ensures ∙ ap (number_at keys) c.of_flow-2.ensures in
    let third = c.in_err-lmax.ensures ∙ ap (number_at keys) c.of_flow-3.ensures in
    rw (window_fault c.args.i keys c.in_ok-frames.frames c.in_ok-lmin.lmin c.in_err-lmax.field-0.0 first second third) (search rules)
