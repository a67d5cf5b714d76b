use Rattle.std.proofs.Common.{ℕ, ◌+◌, ◌-◌, ◌*◌, ◌/◌, subst, sym, arith}
use Rattle.sample_bits.specs.Blocks.{IsSpan}
use Rattle.sample_bits.proofs.RateLemmas.{some_frames}
use Rattle.axc_sample_map.specs.Place.{place_in_block}
use Rattle.axc_sample_map.proofs.Places.{IsSpan-place, some_bits}
use Rattle.axc_sample_map.proofs.container.span.Goals as goal

pub returns : goal.returns
returns c =
    let m = c.args.m in
    let s = c.args.s in
    let k = c.args.k in
    let r = c.args.r in
    let P : ℕ → Type 0 = λ n. IsSpan m (place_in_block m s k r) (2 * m * r / n) ((2 * m * r + 2 * m - 1) / n) in
    subst P (sym c.size-size.ensures) (IsSpan-place m s k r (omega arith) (some_bits m s k (omega arith) (omega arith) (some_frames s k c.requires.rate)))
