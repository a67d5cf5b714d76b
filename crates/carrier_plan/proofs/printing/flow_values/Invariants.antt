use Rattle.std.proofs.Common.{◌≡◌, ◌≤◌, Ok, take}
use Rattle.toml.specs.Data.{items_depth}
use Rattle.toml.specs.View.{items_view}
use Rattle.carrier_plan.specs.PlanOf.{flow_of, all_from}
use Rattle.carrier_plan.proofs.printing.flow_values.Given as goal

-- what is read of the values so far, and how deep they are
abbrev pub invariant-loop-flow : goal.invariant-loop-flow
invariant-loop-flow l = record {
  reads : all_from flow_of 0 (items_view l.values.items) ≡ Ok (take l.flow-index l.flows);
  depth : items_depth (items_view l.values.items) ≤ 2;
}
