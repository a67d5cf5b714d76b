use Rattle.std.proofs.Common.{◌≡◌, ◌≢◌, ℕ, ◌+◌, ◌-◌, ◌*◌, ◌/◌, ◌%◌, ◌<◌, ◌≤◌, ◌∙◌, length, take, drop, ap, arith, lit<, length-take, length-drop, get_or-set_other, get_or-set_same, below_more}
use Rattle.std.proofs.Math.Nat.{div-le_self}
use Rattle.std.proofs.lemmas.Nat.{mul-le}
use Rattle.link_base.specs.Bits.{bit_of}
use Rattle.sample_bits.specs.BlockPlace.{bit_in_block}
use Rattle.sample_bits.specs.Blocks.{sample_in_block}
use Rattle.sample_bits.proofs.OctetLemmas.{bit_of-rest}
use Rattle.sample_bits.proofs.RateLemmas.{some_frames, few_samples, div_ceil-least}
use Rattle.sample_bits.proofs.SampleOfBits.{sample_of_bits-same}
use Rattle.axc_compatible_map.specs.Container.{prescribed_size}
use Rattle.axc_compatible_map.specs.Place.{place_in_block}
use Rattle.axc_compatible_map.proofs.Places.{bit_in_block-place, container-below, container_of_one, containers_of_one, few_in_block}
use Rattle.axc_compatible_map.proofs.Stuffing.{block_containers, carrier_of-share}
use Rattle.axc_compatible_map.proofs.unpacking.unpack_run.Goals as goal
use Rattle.axc_compatible_map.proofs.unpacking.unpack_run.Goals.{then-spare-rest, else-spare-rest}

pub read_run-requires-clause-within : goal.read_run-requires-clause-within
read_run-requires-clause-within g c =
    let m = g.row.M in
    let s = c.args.s in
    let k = c.args.k in
    let octets = c.args.octets.now in
    let count = ap (λ n. 2 * m * n) (containers_of_one s k c.if-k-eq1.true) in
    let size = ap (λ n. n * prescribed_size m s k) c.if-k-eq1.true in
    let all = mul-le (2 * m) (c.args.first + length c.args.out.now) (2 * m) s (omega arith) c.requires.samples in
    omega (arith, length-take (length octets - c.args.start / 8) (drop (c.args.start / 8) octets), length-drop (c.args.start / 8) octets)

pub returns-then-k-eq1 : goal.returns-then-k-eq1
returns-then-k-eq1 g c i h d =
    let m = g.row.M in
    let s = c.args.s in
    let k = c.args.k in
    let r : ℕ = c.args.first + i in
    let start = c.args.start in
    let octets = c.args.octets.now in
    let o : ℕ = start / 8 in
    let from : ℕ = start % 8 + 2 * m * c.args.first in
    let rest = take (length octets - o) (drop o octets) in
    let scaled = ap (λ n. 2 * m * n) (container_of_one s k r (omega arith) c.if-k-eq1.true) in
    c.read_run.ensures i h d
    ∙ sample_of_bits-same m (λ b. bit_of rest (from + 2 * m * i + b)) (λ b. bit_of octets (start + bit_in_block (prescribed_size m s k) (place_in_block m s k r b)))
    (λ b small.
    let place = bit_in_block-place m s k r b (omega arith) (some_frames s k c.requires.rate) (omega arith) in
    bit_of-rest o octets (from + 2 * m * i + b) ∙ ap (bit_of octets) (omega arith))

pub overflow_mul-spare : goal.overflow_mul-spare
overflow_mul-spare g c =
    let s = c.args.s in
    let k = c.args.k in
    let t = block_containers s k in
    let least = div_ceil-least ((c.args.first + 1) * t) s (omega arith) in
    let scaled = ap (λ n. n * s) c.container_of-container.ensures in
    let most = mul-le (c.args.first + 1) t 3_073 3_072 (omega (arith, few_samples s k c.requires.rate)) (few_in_block s k c.requires.rate) in
    omega (arith, few_samples s k c.requires.rate)

pub read-requires : goal.read-requires
read-requires g c =
    let m = g.row.M in
    let s = c.args.s in
    let k = c.args.k in
    let t = block_containers s k in
    let u = c.loop-sample.container in
    let r : ℕ = c.args.first + c.loop-sample.sample-index in
    let octets = c.args.octets.now in
    let here = carrier_of-share s t r u c.loop-sample.spare (omega arith) c.loop-sample.invariant.share c.loop-sample.invariant.part in
    let below = container-below s k r (omega arith) (some_frames s k c.requires.rate) (omega arith) in
    let within : u < t = omega (arith, here, below) in
    let all = mul-le (2 * m) (u + 1) (2 * m) t (omega arith) (omega arith) in
    let rest = length-take (length octets - c.args.start / 8) (drop (c.args.start / 8) octets) in
    let dropped = length-drop (c.args.start / 8) octets in
    (lit< tt, (omega arith, (omega arith, omega arith)))

pub overflow_add-container : goal.overflow_add-container
overflow_add-container g c =
    let s = c.args.s in
    let k = c.args.k in
    let t = block_containers s k in
    let u = c.loop-sample.container in
    let r : ℕ = c.args.first + c.loop-sample.sample-index in
    let here = carrier_of-share s t r u c.loop-sample.spare (omega arith) c.loop-sample.invariant.share c.loop-sample.invariant.part in
    let below = container-below s k r (omega arith) (some_frames s k c.requires.rate) (omega arith) in
    let within : u < t = omega (arith, here, below) in
    let few = few_in_block s k c.requires.rate in
    let all : c.containers.result * k ≡ t = ap (λ n. n * k) c.containers.ensures in
    omega (arith, div-le_self (c.containers.result * k) s)

pub overflow_add-container-then-spare-rest : goal.overflow_add-container-then-spare-rest
overflow_add-container-then-spare-rest g c =
    let s = c.args.s in
    let k = c.args.k in
    let t = block_containers s k in
    let u = c.loop-sample.container in
    let r : ℕ = c.args.first + c.loop-sample.sample-index in
    let here = carrier_of-share s t r u c.loop-sample.spare (omega arith) c.loop-sample.invariant.share c.loop-sample.invariant.part in
    let below = container-below s k r (omega arith) (some_frames s k c.requires.rate) (omega arith) in
    let within : u < t = omega (arith, here, below) in
    let few = few_in_block s k c.requires.rate in
    let all : c.containers.result * k ≡ t = ap (λ n. n * k) c.containers.ensures in
    omega (arith, div-le_self (c.containers.result * k) s)

-- one sample on, in which t / s containers and a part of the next one are due
next_share : (s t a u spare : ℕ) → 0 < s → (u + 1) * s ≡ a * t + spare → spare < t % s → (u + t / s + 1 + 1) * s ≡ (a + 1) * t + (spare + s - t % s)
next_share s t a u spare some share less =
    let whole = ap (λ v. v + 0) (let e : s * (t / s) + t % s ≡ t = omega arith in e) in
    omega arith

next_share-same : (s t a u spare : ℕ) → 0 < s → (u + 1) * s ≡ a * t + spare → t % s ≤ spare → (u + t / s + 1) * s ≡ (a + 1) * t + (spare - t % s)
next_share-same s t a u spare some share less =
    let whole = ap (λ v. v + 0) (let e : s * (t / s) + t % s ≡ t = omega arith in e) in
    omega arith

pub loop-sample-preserved : goal.loop-sample-preserved
loop-sample-preserved g c =
    let m = g.row.M in
    let s = c.args.s in
    let k = c.args.k in
    let t = block_containers s k in
    let u = c.loop-sample.container in
    let i : ℕ = c.loop-sample.sample-index in
    let r : ℕ = c.args.first + i in
    let octets = c.args.octets.now in
    let start = c.args.start in
    let o : ℕ = start / 8 in
    let rest = take (length octets - o) (drop o octets) in
    let spare = c.loop-sample.spare in
    let known = c.loop-sample.invariant in
    let frames = some_frames s k c.requires.rate in
    let all : c.containers.result * k ≡ t = ap (λ n. n * k) c.containers.ensures in
    let here = carrier_of-share s t r u spare (omega arith) known.share known.part in
    let scaled = ap (λ v. 2 * m * v) here in
    let wholes = ap (λ n. n / s) all in
    let rests = ap (λ n. n % s) all in
    let numbers : r + 1 + 1 ≡ c.args.first + (i + 1) + 1 = omega arith in
    let value : c.wide.result ≡ sample_in_block m (prescribed_size m s k) (place_in_block m s k r) octets start =
    c.wide.ensures.value ∙ c.read.ensures
    ∙ sample_of_bits-same m (λ b. bit_of rest (start % 8 + 2 * m * u + b)) (λ b. bit_of octets (start + bit_in_block (prescribed_size m s k) (place_in_block m s k r b)))
    (λ b h.
    let place = bit_in_block-place m s k r b (omega arith) frames (omega arith) in
    bit_of-rest o octets (start % 8 + 2 * m * u + b) ∙ ap (bit_of octets) (omega arith)) in
    record {
      share = elim c.if-spare-rest.branch [
        | then-spare-rest w ↦
            let up = next_share s t (r + 1) u spare (omega arith) known.share (omega arith) in
            ap (λ v. (v + 1) * s) (w.container-is ∙ ap (λ n. u + n + 1) wholes) ∙ up
            ∙ ap (λ a. a * t + (spare + s - t % s)) numbers
            ∙ ap (λ v. (c.args.first + (i + 1) + 1) * t + v) (omega arith)
        | else-spare-rest w ↦
            let up = next_share-same s t (r + 1) u spare (omega arith) known.share (omega arith) in
            ap (λ v. (v + 1) * s) (w.container-is ∙ ap (λ n. u + n) wholes) ∙ up
            ∙ ap (λ a. a * t + (spare - t % s)) numbers
            ∙ ap (λ v. (c.args.first + (i + 1) + 1) * t + v) (omega arith)
      ];
      part = elim c.if-spare-rest.branch [
        | then-spare-rest w ↦ omega arith
        | else-spare-rest w ↦ omega arith
      ];
      read = below_more _ _
          (λ j h d. let ne : j ≢ i = omega arith in rw get_or-set_other (known.read j h d))
          (λ d. let lt : i < length c.loop-sample.out = omega arith in rw get_or-set_same value);
    }
