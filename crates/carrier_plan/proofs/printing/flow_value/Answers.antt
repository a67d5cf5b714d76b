use Rattle.std.proofs.Common.{◌≡◌, ◌∙◌, ap, Ok, refl}
use Rattle.toml.specs.View.{view, table_view}
use Rattle.toml.proofs.Views.{view-Table, view-Boolean}
use Rattle.carrier_plan.specs.PlanOf.{flow_of, flow_in}
use Rattle.carrier_plan.proofs.Values.{ReadsNumbers, flow_reads, flow_depth, flow_members}
use Rattle.carrier_plan.proofs.printing.flow_value.Goals as goal

-- the table that was built
built : (c : goal.In_ok-put-11) → table_view c.put-11.new.table ≡ flow_members c.args.flow.now.id (view c.in_ok-dst.dst) (view c.in_ok-src.src) c.args.flow.now.control (view c.in_ok-carriers.carriers) c.args.flow.now.frames c.args.flow.now.lmin c.args.flow.now.lmax c.args.flow.now.cap c.args.flow.now.p c.args.flow.now.q
built c = rw (c.in_ok-put-11.ensures, c.number-7.ensures.value, c.in_ok-put-10.ensures, c.number-6.ensures.value, c.in_ok-put-9.ensures, c.number-5.ensures.value, c.in_ok-put-8.ensures, c.number-4.ensures.value, c.in_ok-put-7.ensures, c.number-3.ensures.value, c.in_ok-put-6.ensures, c.number-2.ensures.value, c.in_ok-put-5.ensures, c.in_ok-put-4.ensures, view-Boolean c.args.flow.now.control, c.in_ok-put-3.ensures, c.in_ok-put-2.ensures, c.in_ok-put.ensures, c.number.ensures.value, c.new-table.ensures.empty) refl

pub returns-clause-reads : goal.returns-clause-reads
returns-clause-reads c i =
    let flow = c.args.flow.now in
    let numbers : ReadsNumbers (view c.in_ok-carriers.carriers) flow.carriers = λ spot. c.in_ok-carriers.ensures.reads spot ∙ ap Ok c.as_slice.ensures in
    ap (flow_of i) (view-Table c.put-11.new.table) ∙ ap (flow_in i) (built c)
    ∙ flow_reads i flow.id (view c.in_ok-dst.dst) (view c.in_ok-src.src) flow.dst flow.src flow.control (view c.in_ok-carriers.carriers) flow.carriers flow.frames flow.lmin flow.lmax flow.cap flow.p flow.q c.number.ensures.range c.in_ok-dst.ensures.reads c.in_ok-src.ensures.reads numbers c.number-2.ensures.range c.number-3.ensures.range c.number-4.ensures.range c.number-5.ensures.range c.number-6.ensures.range c.number-7.ensures.range

pub returns-clause-depth : goal.returns-clause-depth
returns-clause-depth c =
    let flow = c.args.flow.now in
    let deep = flow_depth flow.id (view c.in_ok-dst.dst) (view c.in_ok-src.src) flow.control (view c.in_ok-carriers.carriers) flow.frames flow.lmin flow.lmax flow.cap flow.p flow.q c.in_ok-dst.ensures.depth c.in_ok-src.ensures.depth c.in_ok-carriers.ensures.depth in
    rw (view-Table c.put-11.new.table, built c) deep
