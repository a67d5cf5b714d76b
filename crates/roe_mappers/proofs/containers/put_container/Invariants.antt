use Rattle.std.proofs.Common.{◌≡◌, ◌+◌, length, flat_map, take}
use Rattle.roe_mappers.specs.CarriedBits.{bits_of_piece}
use Rattle.roe_mappers.specs.MovedBits.{GivesBits}
use Rattle.roe_mappers.proofs.containers.put_container.Given as goal

-- the bits of the pieces so far
abbrev pub invariant-loop-piece : goal.invariant-loop-piece
invariant-loop-piece g l =
    (l.end ≡ l.from + length (flat_map bits_of_piece (take l.piece-index l.pieces))) × GivesBits g.row.Y l.octets l.from (flat_map bits_of_piece (take l.piece-index l.pieces)) l.initial.frame l.frame
