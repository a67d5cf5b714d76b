use Rattle.std.proofs.Common.{◌≡◌, ◌*◌, ◌≤◌, take}
use Rattle.plan_checker.specs.Container.{pieces_size}
use Rattle.plan_checker.proofs.container.bits_of_container.Given as goal

-- the bits of the pieces so far, each of which has a size below 2^32
abbrev pub invariant-loop-piece : goal.invariant-loop-piece
invariant-loop-piece l = (l.bits ≡ pieces_size (take l.piece-index l.piece-items)) × (l.bits ≤ 4_294_967_295 * l.piece-index)
