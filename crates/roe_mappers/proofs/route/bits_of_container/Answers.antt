use Rattle.std.proofs.Common.{arith}
use Rattle.std.proofs.lemmas.List.Sums.{sum_by_more_le}
use Rattle.carrier_plan.specs.declared.plan.Piece.{Piece}
use Rattle.roe_mappers.proofs.route.bits_of_container.Goals as goal

pub overflow_add-bits : goal.overflow_add-bits
overflow_add-bits c =
    let more = sum_by_more_le (λ (p : Piece). p.size) c.args.pieces.now c.loop-piece.piece-index (record { start = 0; size = 0 }) (omega arith) in
    record { fits = omega (arith, more, c.loop-piece.invariant, c.requires) }
