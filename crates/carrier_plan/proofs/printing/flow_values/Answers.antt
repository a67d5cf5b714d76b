use Rattle.std.proofs.Common.{◌∙◌, ap, Ok, arith}
use Rattle.carrier_plan.specs.PlanOf.{flow_of}
use Rattle.carrier_plan.proofs.Values.{all_read_more, items_depth-push}
use Rattle.carrier_plan.proofs.printing.flow_values.Goals as goal

pub loop-flow-preserved : goal.loop-flow-preserved
loop-flow-preserved c =
    let i = c.loop-flow.flow-index in
    let more = all_read_more flow_of c.loop-flow.values.items c.in_ok-flow_value.field-0 c.args.flows.now i c.flow-item.result (omega arith) (λ j. c.in_ok-flow_value.ensures.reads j ∙ ap Ok c.flow-item.is) c.loop-flow.invariant.reads in
    let deep = items_depth-push c.loop-flow.values.items c.in_ok-flow_value.field-0 2 c.loop-flow.invariant.depth (omega (arith, c.in_ok-flow_value.ensures.depth)) in
    record {
      reads = rw c.in_ok-push.ensures.items more;
      depth = rw c.in_ok-push.ensures.items deep;
    }
