use Rattle.std.proofs.Common.{◌-◌, arith}
use Rattle.std.proofs.lemmas.Nat.{pow_below}
use Rattle.std.proofs.lemmas.Int.{ints}
use Rattle.sample_bits.proofs.SignLemmas.{one_shl-signed}
use Rattle.link_sender_blocks.proofs.range.fits.Goals as goal

pub overflow_sub-limit-2 : goal.overflow_sub-limit-2
overflow_sub-limit-2 c =
    let limit = one_shl-signed (c.args.width - 1) (omega arith) in
    let small = pow_below (c.args.width - 1) 31 (omega arith) in
    omega (arith, ints)

pub returns-then-limit-value : goal.returns-then-limit-value
returns-then-limit-value c =
    let limit = one_shl-signed (c.args.width - 1) (omega arith) in
    let small = pow_below (c.args.width - 1) 31 (omega arith) in
    grind (arith, ints)
