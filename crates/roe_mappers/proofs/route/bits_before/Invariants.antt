use Rattle.std.proofs.Common.{◌≡◌, ◌==◌, ℕ, ◌<◌, false, get_or, take}
use Rattle.plan_checker.specs.Flows.{bits_of_carriers}
use Rattle.roe_mappers.proofs.route.bits_before.Given as goal

-- the carriers so far, none of which is the one
abbrev pub invariant-loop-number : goal.invariant-loop-number
invariant-loop-number l = (l.bits ≡ bits_of_carriers l.plan (take l.number-index l.number-items)) × ((k : ℕ) → k < l.number-index → (get_or l.number-items k 0 == l.c) ≡ false)
