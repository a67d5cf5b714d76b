use Rattle.std.proofs.Common.{◌≡◌, length, flat_map, take}
use Rattle.roe_mappers.specs.CarriedBits.{bits_of_carrier}
use Rattle.roe_mappers.specs.MovedBits.{GivesBits}
use Rattle.roe_mappers.proofs.containers.put_containers.Given as goal

-- the bits of the carriers so far
abbrev pub invariant-loop-number : goal.invariant-loop-number
invariant-loop-number g l =
    (l.from ≡ length (flat_map (bits_of_carrier l.plan) (take l.number-index l.number-items))) × GivesBits g.row.Y l.octets 0 (flat_map (bits_of_carrier l.plan) (take l.number-index l.number-items)) l.initial.frame l.frame
