use Rattle.std.proofs.Common.{◌≡◌, ◌+◌, ◌++◌, length, take, get_or, flat_map, arith, sym, subst, ap, ◌∙◌, length-append}
use Rattle.std.proofs.lemmas.List.{take_all}
use Rattle.std.proofs.lemmas.List.Sums.{sum_by_more_le}
use Rattle.carrier_plan.specs.declared.plan.Piece.{Piece}
use Rattle.roe_mappers.specs.CarriedBits.{bits_of_piece}
use Rattle.roe_mappers.specs.MovedBits.{GivesBits}
use Rattle.roe_mappers.proofs.Moving.{GivesBits-join, GivesBits-none, GivesBits-piece, flat_map-take_more}
use Rattle.roe_mappers.proofs.PieceBits.{AreDistinct-pieces, apart_from_next, length-bits_of_piece, length-bits_of_pieces}
use Rattle.roe_mappers.proofs.containers.put_container.Goals as goal

pub loop-piece-init : goal.loop-piece-init
loop-piece-init g c = (omega arith, GivesBits-none g.row.Y c.args.octets.now c.args.from c.args.frame.now)

pub put_bits-requires : goal.put_bits-requires
put_bits-requires g c =
    let ps = c.args.pieces.now in
    let i = c.loop-piece.piece-index in
    let d : Piece = record { start = 0; size = 0 } in
    let more = sum_by_more_le (λ (p : Piece). p.size) ps i d (omega arith) in
    (omega arith, (c.requires.within i d (omega arith), omega (arith, more, c.loop-piece.invariant.0, length-bits_of_pieces (take i ps))))

pub overflow_add-end : goal.overflow_add-end
overflow_add-end g c =
    let ps = c.args.pieces.now in
    let i = c.loop-piece.piece-index in
    let d : Piece = record { start = 0; size = 0 } in
    let more = sum_by_more_le (λ (p : Piece). p.size) ps i d (omega arith) in
    record { fits = omega (arith, more, c.loop-piece.invariant.0, length-bits_of_pieces (take i ps), c.requires.short) }

pub loop-piece-preserved : goal.loop-piece-preserved
loop-piece-preserved g c =
    let ps = c.args.pieces.now in
    let i = c.loop-piece.piece-index in
    let d : Piece = record { start = 0; size = 0 } in
    let p = get_or ps i d in
    let so_far = flat_map bits_of_piece (take i ps) in
    let bits : flat_map bits_of_piece (take (i + 1) ps) ≡ so_far ++ bits_of_piece p = flat_map-take_more bits_of_piece ps i d (omega arith) in
    let long = ap length bits ∙ length-append so_far (bits_of_piece p) in
    let piece = GivesBits-piece g.row.Y c.args.octets.now c.loop-piece.frame c.put_bits.new.self p.start c.loop-piece.end p.size c.put_bits.ensures in
    let apart = apart_from_next bits_of_piece ps i d (omega arith) (AreDistinct-pieces ps c.requires.apart) in
    let both = GivesBits-join g.row.Y c.args.octets.now so_far (bits_of_piece p) c.args.frame.now c.loop-piece.frame c.put_bits.new.self c.args.from c.loop-piece.end c.loop-piece.invariant.0 apart c.loop-piece.invariant.1 piece in (
      omega (arith, long, c.loop-piece.invariant.0, length-bits_of_piece p),
      subst (λ bs. GivesBits g.row.Y c.args.octets.now c.args.from bs c.args.frame.now c.put_bits.new.self) (sym bits) both,
    )

pub returns-clause-end : goal.returns-clause-end
returns-clause-end g c =
    let all = take_all c.loop-piece.piece-index c.args.pieces.now (omega arith) in
    subst (λ ps. c.loop-piece.end ≡ c.args.from + length (flat_map bits_of_piece ps)) all c.loop-piece.invariant.0

pub returns-clause-given : goal.returns-clause-given
returns-clause-given g c =
    let all = take_all c.loop-piece.piece-index c.args.pieces.now (omega arith) in
    subst (λ ps. GivesBits g.row.Y c.args.octets.now c.args.from (flat_map bits_of_piece ps) c.args.frame.now c.loop-piece.frame) all c.loop-piece.invariant.1
