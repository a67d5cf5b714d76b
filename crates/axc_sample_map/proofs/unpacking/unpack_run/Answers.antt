use Rattle.std.proofs.Common.{ℕ, ◌+◌, ◌*◌, ◌/◌, ◌%◌, ◌-◌, ◌∙◌, length, take, drop, ap, arith, length-take, length-drop}
use Rattle.std.proofs.lemmas.Nat.{mul-le}
use Rattle.link_base.specs.Bits.{bit_of}
use Rattle.sample_bits.specs.BlockPlace.{bit_in_block}
use Rattle.sample_bits.proofs.OctetLemmas.{bit_of-rest}
use Rattle.sample_bits.proofs.RateLemmas.{some_frames}
use Rattle.sample_bits.proofs.SampleOfBits.{sample_of_bits-same}
use Rattle.axc_sample_map.specs.Container.{prescribed_size}
use Rattle.axc_sample_map.specs.Place.{place_in_block}
use Rattle.axc_sample_map.proofs.Places.{some_bits, bit_in_block-place, containers_enough}
use Rattle.axc_sample_map.proofs.unpacking.unpack_run.Goals as goal

pub read_run-requires-clause-within : goal.read_run-requires-clause-within
read_run-requires-clause-within g c =
    let m = g.row.M in
    let s = c.args.s in
    let k = c.args.k in
    let room = containers_enough m s k (some_frames s k c.requires.rate) in
    let all = mul-le (2 * m) (c.args.first + length c.args.out.now) (2 * m) s (omega arith) c.requires.samples in
    omega (arith, length-take (length c.args.octets.now - c.args.start / 8) (drop (c.args.start / 8) c.args.octets.now), length-drop (c.args.start / 8) c.args.octets.now)

pub returns : goal.returns
returns g c i h d =
    let m = g.row.M in
    let s = c.args.s in
    let k = c.args.k in
    let r : ℕ = c.args.first + i in
    let start = c.args.start in
    let octets = c.args.octets.now in
    let o : ℕ = start / 8 in
    let from : ℕ = start % 8 + 2 * m * c.args.first in
    let rest = take (length octets - o) (drop o octets) in
    let some = some_bits m s k (omega arith) (omega arith) (some_frames s k c.requires.rate) in
    c.read_run.ensures i h d
    ∙ sample_of_bits-same m (λ b. bit_of rest (from + 2 * m * i + b)) (λ b. bit_of octets (start + bit_in_block (prescribed_size m s k) (place_in_block m s k r b)))
    (λ b h. let place = bit_in_block-place m s k r b some in bit_of-rest o octets (from + 2 * m * i + b) ∙ ap (bit_of octets) (omega arith))
