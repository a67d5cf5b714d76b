use Rattle.std.proofs.Common.{◌≡◌, drop}
use Rattle.toml.specs.View.{items_view}
use Rattle.carrier_plan.specs.PlanOf.{carrier_of, all_from}
use Rattle.carrier_plan.proofs.Elements.{with_front}
use Rattle.carrier_plan.proofs.reading.carriers_from.Given as goal

-- the carriers so far, before what is read of the rest, are what is read of all
abbrev pub invariant-loop-place : goal.invariant-loop-place
invariant-loop-place l = with_front l.carriers (all_from (carrier_of l.version) l.place (items_view (drop l.place l.values))) ≡ all_from (carrier_of l.version) 0 (items_view l.values)
