use Rattle.std.proofs.Common.{◌≡◌, take}
use Rattle.carrier_plan.proofs.carrier_list.CarrierList.copy.Given as goal

abbrev pub invariant-loop-carrier : goal.invariant-loop-carrier
invariant-loop-carrier l = l.copy ≡ take l.carrier-index l.carrier-items
