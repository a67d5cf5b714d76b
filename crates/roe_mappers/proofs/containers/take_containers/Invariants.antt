use Rattle.std.proofs.Common.{◌≡◌, length, flat_map, take}
use Rattle.roe_mappers.specs.CarriedBits.{bits_of_carrier}
use Rattle.roe_mappers.specs.MovedBits.{TakesBits}
use Rattle.roe_mappers.proofs.containers.take_containers.Given as goal

-- the bits of the carriers so far
abbrev pub invariant-loop-number : goal.invariant-loop-number
invariant-loop-number g l =
    (l.end ≡ length (flat_map (bits_of_carrier l.plan) (take l.number-index l.number-items))) × TakesBits g.row.Y l.frame (flat_map (bits_of_carrier l.plan) (take l.number-index l.number-items)) l.initial.octets l.octets 0
