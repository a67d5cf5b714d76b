use Rattle.std.proofs.Common.{◌≡◌, length, map, take}
use Rattle.roe_mappers.specs.Routes.{moved_by}
use Rattle.roe_mappers.proofs.route.moved_pieces.Given as goal

-- the pieces so far
abbrev pub invariant-loop-i : goal.invariant-loop-i
invariant-loop-i l = (length l.moved ≡ 4) × (take l.i l.moved ≡ map (moved_by l.by) (take l.i l.pieces))
