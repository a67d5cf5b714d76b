use Rattle.std.proofs.Common.{◌≡◌, ◌*◌, ◌≤◌, take}
use Rattle.plan_checker.specs.Flows.{bits_of_carriers}
use Rattle.plan_checker.proofs.payload.bits_of_carriers.Given as goal

-- the bits of the carriers so far, each of which has at most four pieces
abbrev pub invariant-loop-number : goal.invariant-loop-number
invariant-loop-number l = (l.bits ≡ bits_of_carriers l.plan (take l.number-index l.numbers)) × (l.bits ≤ 17_179_869_180 * l.number-index)
