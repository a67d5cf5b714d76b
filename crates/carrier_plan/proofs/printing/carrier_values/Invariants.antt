use Rattle.std.proofs.Common.{◌≡◌, ◌≤◌, Ok, take}
use Rattle.toml.specs.Data.{items_depth}
use Rattle.toml.specs.View.{items_view}
use Rattle.carrier_plan.specs.PlanOf.{carrier_of, all_from}
use Rattle.carrier_plan.proofs.printing.carrier_values.Given as goal

-- what is read of the values so far, and how deep they are
abbrev pub invariant-loop-carrier : goal.invariant-loop-carrier
invariant-loop-carrier l = record {
  reads : all_from (carrier_of l.version) 0 (items_view l.values.items) ≡ Ok (take l.carrier-index l.carriers);
  depth : items_depth (items_view l.values.items) ≤ 3;
}
