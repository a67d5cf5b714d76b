use Rattle.std.proofs.Common.{◌≡◌, drop}
use Rattle.toml.specs.View.{items_view}
use Rattle.carrier_plan.specs.PlanOf.{piece_of, all_from}
use Rattle.carrier_plan.proofs.Elements.{with_front}
use Rattle.carrier_plan.proofs.reading.pieces_in.Given as goal

-- the pieces so far, before what is read of the rest, are what is read of all
abbrev pub invariant-loop-value : goal.invariant-loop-value
invariant-loop-value l = with_front l.pieces (all_from (λ _. piece_of l.spot) l.value-index (items_view (drop l.value-index l.values))) ≡ all_from (λ _. piece_of l.spot) 0 (items_view l.values)
