use Rattle.std.proofs.Common.{◌≡◌, map}
use Rattle.std.specs.List.{range_with_len}
use Rattle.link_drill.specs.DrillPlan.{drill_carrier}
use Rattle.link_drill.proofs.run_plan.carriers.Given as goal

-- the first carriers
abbrev pub invariant-loop-c : goal.invariant-loop-c
invariant-loop-c l = l.carriers ≡ map drill_carrier (range_with_len 0 l.c)
