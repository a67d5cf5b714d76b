use Rattle.std.proofs.Common.{◌≡◌, ◌≤◌, Ok, take, true}
use Rattle.toml.specs.Data.{items_depth}
use Rattle.toml.specs.View.{items_view}
use Rattle.carrier_plan.specs.declared.fault.Spot.{Spot}
use Rattle.carrier_plan.specs.PlanOf.{numbers_in, are_integers}
use Rattle.carrier_plan.proofs.printing.number_array.Given as goal

-- what is read of the values so far, that they are whole numbers, and how deep they are
abbrev pub invariant-loop-n : goal.invariant-loop-n
invariant-loop-n l = record {
  reads : (spot : Spot) → numbers_in spot (items_view l.values.items) ≡ Ok (take l.n-index l.numbers);
  integers : are_integers (items_view l.values.items) ≡ true;
  depth : items_depth (items_view l.values.items) ≤ 0;
}
