use Rattle.std.proofs.Common.{◌≡◌, take}
use Rattle.plan_checker.specs.Container.{pieces_size}
use Rattle.roe_mappers.proofs.route.bits_of_container.Given as goal

-- the bits of the pieces so far
abbrev pub invariant-loop-piece : goal.invariant-loop-piece
invariant-loop-piece l = l.bits ≡ pieces_size (take l.piece-index l.pieces)
