use Rattle.std.proofs.Common.{◌≡◌, ◌∙◌, ap, Ok, refl}
use Rattle.toml.specs.View.{items_view, table_view}
use Rattle.toml.proofs.Views.{view-Array}
use Rattle.carrier_plan.specs.PlanOf.{plan_in}
use Rattle.carrier_plan.proofs.Values.{plan_reads, plan_depth, plan_members}
use Rattle.carrier_plan.proofs.printing.plan_table.Goals as goal

-- the table that was built
built : (c : goal.In_ok-put-6) → table_view c.put-6.new.table ≡ plan_members c.version_of-version.result c.args.plan.now.option c.args.plan.now.mode c.args.plan.now.playout (items_view c.in_ok-carriers.carriers.items) (items_view c.in_ok-flows.flows.items)
built c = rw (c.in_ok-put-6.ensures, view-Array c.in_ok-flows.flows, c.in_ok-put-5.ensures, view-Array c.in_ok-carriers.carriers, c.in_ok-put-4.ensures, c.number-4.ensures.value, c.in_ok-put-3.ensures, c.in_ok-mode.ensures, c.mode_name.ensures, c.in_ok-put-2.ensures, c.number-3.ensures.value, c.in_ok-put.ensures, c.number-2.ensures.value, c.number.ensures, c.new-table.ensures.empty) refl

pub returns-clause-reads : goal.returns-clause-reads
returns-clause-reads c =
    let plan = c.args.plan.now in
    ap plan_in (built c)
    ∙ plan_reads c.version_of-version.result plan.option plan.mode plan.playout (items_view c.in_ok-carriers.carriers.items) (items_view c.in_ok-flows.flows.items) plan.carriers plan.flows c.number-3.ensures.range c.number-4.ensures.range (c.in_ok-carriers.ensures.reads ∙ ap Ok c.as_slice-2.ensures) (c.in_ok-flows.ensures.reads ∙ ap Ok c.as_slice-3.ensures)

pub returns-clause-depth : goal.returns-clause-depth
returns-clause-depth c =
    let plan = c.args.plan.now in
    rw (built c) (plan_depth c.version_of-version.result plan.option plan.mode plan.playout (items_view c.in_ok-carriers.carriers.items) (items_view c.in_ok-flows.flows.items) c.in_ok-carriers.ensures.depth c.in_ok-flows.ensures.depth)
