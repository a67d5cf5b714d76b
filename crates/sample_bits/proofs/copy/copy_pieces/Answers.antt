use Rattle.std.proofs.Common.{◌-◌, ◌+◌, ◌*◌, arith}
use Rattle.sample_bits.proofs.OctetLemmas.{CopiesBits-join}
use Rattle.sample_bits.proofs.copy.copy_pieces.Goals as goal

pub loop-left-preserved : goal.loop-left-preserved
loop-left-preserved c =
    let done = c.args.count - c.loop-left.left in
    let moved = c.copy_piece-moved.result in
    let source = 8 * c.loop-left.source.octet + c.loop-left.source.bit in
    let target = 8 * c.loop-left.target.octet + c.loop-left.target.bit in
    let left = c.loop-left.left - moved in (
      omega arith,
      omega arith,
      omega arith,
      CopiesBits-join c.args.src.now c.args.dst.now c.loop-left.dst c.copy_piece-moved.new.dst c.args.from c.args.at done moved source target (c.args.count - left)
          (omega arith) (omega arith) (omega arith) c.loop-left.invariant.3 c.copy_piece-moved.ensures.copies,
    )
