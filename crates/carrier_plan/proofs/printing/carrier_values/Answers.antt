use Rattle.std.proofs.Common.{◌∙◌, ap, Ok, arith}
use Rattle.carrier_plan.specs.PlanOf.{carrier_of}
use Rattle.carrier_plan.proofs.Values.{all_read_more, items_depth-push}
use Rattle.carrier_plan.proofs.printing.carrier_values.Goals as goal

pub loop-carrier-preserved : goal.loop-carrier-preserved
loop-carrier-preserved c =
    let i = c.loop-carrier.carrier-index in
    let more = all_read_more (carrier_of c.args.version) c.loop-carrier.values.items c.in_ok-carrier_value.field-0 c.args.carriers.now i c.carrier-item.result (omega arith) (λ j. c.in_ok-carrier_value.ensures.reads j ∙ ap Ok c.carrier-item.is) c.loop-carrier.invariant.reads in
    let deep = items_depth-push c.loop-carrier.values.items c.in_ok-carrier_value.field-0 3 c.loop-carrier.invariant.depth (omega (arith, c.in_ok-carrier_value.ensures.depth)) in
    record {
      reads = rw c.in_ok-push.ensures.items more;
      depth = rw c.in_ok-push.ensures.items deep;
    }
