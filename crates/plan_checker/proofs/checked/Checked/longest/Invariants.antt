use Rattle.std.proofs.Common.{◌≡◌, take, map, max, fold}
use Rattle.carrier_plan.specs.declared.plan.Carrier.{Carrier}
use Rattle.plan_checker.proofs.checked.Checked.longest.Given as goal

-- the longest block among the carriers so far
abbrev pub invariant-loop-carrier : goal.invariant-loop-carrier
invariant-loop-carrier l = l.longest ≡ fold max 0 (map (λ (c : Carrier). c.k) (take l.carrier-index l.carrier-items))
