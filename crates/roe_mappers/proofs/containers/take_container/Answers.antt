use Rattle.std.proofs.Common.{◌≡◌, ◌+◌, ◌++◌, length, take, get_or, flat_map, arith, sym, subst, ap, ◌∙◌, length-append}
use Rattle.std.proofs.lemmas.List.{take_all}
use Rattle.std.proofs.lemmas.List.Sums.{sum_by_more_le}
use Rattle.carrier_plan.specs.declared.plan.Piece.{Piece}
use Rattle.roe_mappers.specs.CarriedBits.{bits_of_piece}
use Rattle.roe_mappers.specs.MovedBits.{TakesBits}
use Rattle.roe_mappers.proofs.Moving.{TakesBits-join, TakesBits-none, TakesBits-piece, flat_map-take_more}
use Rattle.roe_mappers.proofs.PieceBits.{length-bits_of_piece, length-bits_of_pieces}
use Rattle.roe_mappers.proofs.containers.take_container.Goals as goal

pub loop-piece-init : goal.loop-piece-init
loop-piece-init g c = (omega arith, TakesBits-none g.row.Y c.args.frame.now c.args.octets.now c.args.at)

pub get_bits-requires : goal.get_bits-requires
get_bits-requires g c =
    let ps = c.args.pieces.now in
    let i = c.loop-piece.piece-index in
    let d : Piece = record { start = 0; size = 0 } in
    let more = sum_by_more_le (λ (p : Piece). p.size) ps i d (omega arith) in
    (omega arith, (c.requires.within i d (omega arith), omega (arith, more, c.loop-piece.invariant.0, length-bits_of_pieces (take i ps), c.loop-piece.auto.octets)))

pub overflow_add-end : goal.overflow_add-end
overflow_add-end g c =
    let ps = c.args.pieces.now in
    let i = c.loop-piece.piece-index in
    let d : Piece = record { start = 0; size = 0 } in
    let more = sum_by_more_le (λ (p : Piece). p.size) ps i d (omega arith) in
    record { fits = omega (arith, more, c.loop-piece.invariant.0, length-bits_of_pieces (take i ps), c.requires.short) }

pub loop-piece-preserved : goal.loop-piece-preserved
loop-piece-preserved g c =
    let ps = c.args.pieces.now in
    let i = c.loop-piece.piece-index in
    let d : Piece = record { start = 0; size = 0 } in
    let p = get_or ps i d in
    let so_far = flat_map bits_of_piece (take i ps) in
    let bits : flat_map bits_of_piece (take (i + 1) ps) ≡ so_far ++ bits_of_piece p = flat_map-take_more bits_of_piece ps i d (omega arith) in
    let long = ap length bits ∙ length-append so_far (bits_of_piece p) in
    let piece = TakesBits-piece g.row.Y c.args.frame.now c.loop-piece.octets c.get_bits.new.out p.start c.loop-piece.end p.size c.get_bits.ensures in
    let both = TakesBits-join g.row.Y c.args.frame.now so_far (bits_of_piece p) c.args.octets.now c.loop-piece.octets c.get_bits.new.out c.args.at c.loop-piece.end c.loop-piece.invariant.0 c.loop-piece.invariant.1 piece in (
      omega (arith, long, c.loop-piece.invariant.0, length-bits_of_piece p),
      subst (λ bs. TakesBits g.row.Y c.args.frame.now bs c.args.octets.now c.get_bits.new.out c.args.at) (sym bits) both,
    )

pub returns-clause-end : goal.returns-clause-end
returns-clause-end g c =
    let all = take_all c.loop-piece.piece-index c.args.pieces.now (omega arith) in
    subst (λ ps. c.loop-piece.end ≡ c.args.at + length (flat_map bits_of_piece ps)) all c.loop-piece.invariant.0

pub returns-clause-taken : goal.returns-clause-taken
returns-clause-taken g c =
    let all = take_all c.loop-piece.piece-index c.args.pieces.now (omega arith) in
    subst (λ ps. TakesBits g.row.Y c.args.frame.now (flat_map bits_of_piece ps) c.args.octets.now c.loop-piece.octets c.args.at) all c.loop-piece.invariant.1
