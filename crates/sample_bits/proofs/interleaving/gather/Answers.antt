use Rattle.std.proofs.Common.{ℕ, ◌*◌, arith}
use Rattle.std.specs.Int.{bit_at}
use Rattle.std.proofs.lemmas.Nat.Bits.{bit_at_above}
use Rattle.sample_bits.specs.Spread.{EndBelow32}
use Rattle.sample_bits.proofs.SpreadLemmas.{IsSpread-even_places, spread-whole}
use Rattle.sample_bits.proofs.interleaving.gather.Goals as goal

pub returns : goal.returns
returns c =
    let bits : ℕ → ℕ = λ j. bit_at c.args.word (2 * j) in
    let end : EndBelow32 bits = λ j h. bit_at_above c.args.word 64 (2 * j) c.ranges.word.fits (omega arith) in
    let pairs = c.join_runs-pairs.ensures bits end (IsSpread-even_places c.args.word c.ranges.word.fits) in
    let fours = c.join_runs-fours.ensures bits end pairs in
    let octets = c.join_runs-octets.ensures bits end fours in
    let sixteens = c.join_runs-sixteens.ensures bits end octets in
    spread-whole c.join_runs.result bits end (c.join_runs.ensures bits end sixteens)
