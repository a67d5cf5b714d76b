use Rattle.std.proofs.Common.{◌≡◌, drop}
use Rattle.toml.specs.View.{items_view}
use Rattle.carrier_plan.specs.PlanOf.{are_pairs}
use Rattle.carrier_plan.proofs.reading.are_pairs.Given as goal

-- what the rest is, all are
abbrev pub invariant-loop-value : goal.invariant-loop-value
invariant-loop-value l = are_pairs (items_view (drop l.value-index l.values)) ≡ are_pairs (items_view l.values)
