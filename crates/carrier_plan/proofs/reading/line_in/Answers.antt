use Rattle.std.proofs.Common.{rules, ◌∙◌, ap}
use Rattle.toml.specs.View.{table_view}
use Rattle.carrier_plan.specs.PlanOf.{version_at, number_at, mode_at}
use Rattle.carrier_plan.proofs.Flows.{line_fault}
use Rattle.carrier_plan.proofs.reading.line_in.Goals as goal

pub returns-in_err-playout : goal.returns-in_err-playout
returns-in_err-playout c =
    let keys = table_view c.args.table.now in
    let first = c.in_ok-version.ensures ∙ ap (version_at keys) c.top.ensures in
    let second = c.in_ok-option.ensures ∙ ap (number_at keys) c.top-2.ensures in
    let third = c.in_ok-mode.ensures ∙ ap (mode_at keys) c.top-3.ensures in
    let fourth = c.in_err-playout.ensures ∙ ap (number_at keys) c.top-4.ensures in
    rw (line_fault keys c.in_ok-version.version c.in_ok-option.option c.in_ok-mode.mode c.in_err-playout.field-0.0 first second third fourth) (search rules)
