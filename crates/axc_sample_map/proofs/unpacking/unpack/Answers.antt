use Rattle.std.proofs.Common.{◌+◌, ◌*◌, ◌∙◌, ap, arith}
use Rattle.link_base.specs.Bits.{bit_of}
use Rattle.sample_bits.specs.BlockPlace.{bit_in_block}
use Rattle.sample_bits.proofs.RateLemmas.{some_frames}
use Rattle.sample_bits.proofs.SampleOfBits.{sample_of_bits-same}
use Rattle.axc_sample_map.specs.Container.{prescribed_size}
use Rattle.axc_sample_map.specs.Place.{place_in_block}
use Rattle.axc_sample_map.proofs.Places.{some_bits, bit_in_block-place}
use Rattle.axc_sample_map.proofs.unpacking.unpack.Goals as goal

pub returns : goal.returns
returns g c =
    let m = g.row.M in
    let s = c.args.s in
    let k = c.args.k in
    let r = c.args.r in
    let some = some_bits m s k (omega arith) (omega arith) (some_frames s k c.requires.rate) in
    c.read.ensures
    ∙ sample_of_bits-same m (λ b. bit_of c.args.ring.now (2 * m * r + b)) (λ b. bit_of c.args.ring.now (0 + bit_in_block (prescribed_size m s k) (place_in_block m s k r b)))
    (λ b h. let place = bit_in_block-place m s k r b some in ap (bit_of c.args.ring.now) (omega arith))
