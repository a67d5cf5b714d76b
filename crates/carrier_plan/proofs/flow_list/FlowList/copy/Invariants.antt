use Rattle.std.proofs.Common.{◌≡◌, take}
use Rattle.carrier_plan.proofs.flow_list.FlowList.copy.Given as goal

abbrev pub invariant-loop-flow : goal.invariant-loop-flow
invariant-loop-flow l = l.copy ≡ take l.flow-index l.flow-items
