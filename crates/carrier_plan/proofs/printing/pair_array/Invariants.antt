use Rattle.std.proofs.Common.{◌≡◌, ◌≤◌, Ok, take, true}
use Rattle.toml.specs.Data.{items_depth}
use Rattle.toml.specs.View.{items_view}
use Rattle.carrier_plan.specs.declared.fault.Spot.{Spot}
use Rattle.carrier_plan.specs.PlanOf.{pieces_in, are_pairs}
use Rattle.carrier_plan.proofs.printing.pair_array.Given as goal

-- what is read of the values so far, that they are pairs, and how deep they are
abbrev pub invariant-loop-piece : goal.invariant-loop-piece
invariant-loop-piece l = record {
  reads : (spot : Spot) → pieces_in spot (items_view l.values.items) ≡ Ok (take l.piece-index l.pieces);
  pairs : are_pairs (items_view l.values.items) ≡ true;
  depth : items_depth (items_view l.values.items) ≤ 1;
}
