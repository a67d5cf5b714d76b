use Rattle.std.proofs.Common.{◌≡◌, ℕ, ◌/◌, subst, sym, arith}
use Rattle.sample_bits.specs.Blocks.{IsSpan}
use Rattle.sample_bits.proofs.RateLemmas.{some_frames}
use Rattle.axc_compatible_map.specs.Place.{place_in_block}
use Rattle.axc_compatible_map.proofs.Places.{IsSpan-place}
use Rattle.axc_compatible_map.proofs.Stuffing.{block_containers, carrier_of}
use Rattle.axc_compatible_map.proofs.container.span.Goals as goal

pub returns : goal.returns
returns c =
    let m = c.args.m in
    let s = c.args.s in
    let k = c.args.k in
    let r = c.args.r in
    let u = c.container_of.result in
    let here : u ≡ carrier_of s (block_containers s k) r = omega (arith, c.container_of.ensures) in
    let P : ℕ → Type 0 = λ n. IsSpan m (place_in_block m s k r) (u / n) (u / n) in
    subst P (sym c.containers.ensures) (IsSpan-place m s k r u (omega arith) (omega arith) (some_frames s k c.requires.rate) c.requires.sample here)
