use Rattle.std.proofs.Common.{◌≡◌, ◌+◌, ◌*◌, ◌<◌, ◌∙◌, ap, arith, lit<}
use Rattle.std.proofs.lemmas.Nat.{mul-le}
use Rattle.link_base.specs.Bits.{bit_of}
use Rattle.sample_bits.specs.BlockPlace.{bit_in_block}
use Rattle.sample_bits.proofs.RateLemmas.{some_frames}
use Rattle.sample_bits.proofs.SampleOfBits.{sample_of_bits-same}
use Rattle.axc_compatible_map.specs.Container.{prescribed_size}
use Rattle.axc_compatible_map.specs.Place.{place_in_block}
use Rattle.axc_compatible_map.proofs.Places.{bit_in_block-place, container-below}
use Rattle.axc_compatible_map.proofs.Stuffing.{block_containers, carrier_of}
use Rattle.axc_compatible_map.proofs.unpacking.unpack.Goals as goal

pub read-requires : goal.read-requires
read-requires g c =
    let m = g.row.M in
    let s = c.args.s in
    let k = c.args.k in
    let u = c.container_of.result in
    let below = container-below s k c.args.r (omega arith) (some_frames s k c.requires.rate) c.requires.sample in
    let within : u < block_containers s k = omega (arith, c.container_of.ensures, below) in
    let all = mul-le (2 * m) (u + 1) (2 * m) (block_containers s k) (omega arith) (omega arith) in
    (lit< tt, (omega arith, (omega arith, omega arith)))

pub returns : goal.returns
returns g c =
    let m = g.row.M in
    let s = c.args.s in
    let k = c.args.k in
    let r = c.args.r in
    let u = c.container_of.result in
    let here : u ≡ carrier_of s (block_containers s k) r = omega (arith, c.container_of.ensures) in
    c.read.ensures
    ∙ sample_of_bits-same m (λ b. bit_of c.args.ring.now (2 * m * u + b)) (λ b. bit_of c.args.ring.now (0 + bit_in_block (prescribed_size m s k) (place_in_block m s k r b)))
    (λ b h.
    let place = bit_in_block-place m s k r b (omega arith) (some_frames s k c.requires.rate) c.requires.sample in
    let scaled = ap (λ v. 2 * m * v) here in
    ap (bit_of c.args.ring.now) (omega arith))
