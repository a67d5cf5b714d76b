use Rattle.std.proofs.Common.{ℕ}
use Rattle.std.specs.Int.{bit_at}
use Rattle.std.proofs.lemmas.Nat.Bits.{bit_at_above}
use Rattle.sample_bits.specs.Spread.{EndBelow32}
use Rattle.sample_bits.proofs.SpreadLemmas.{IsSpread-whole, spread-even, spread-odd}
use Rattle.sample_bits.proofs.interleaving.spread.Goals as goal

pub returns-clause-at_even : goal.returns-clause-at_even
returns-clause-at_even c =
    let bits : ℕ → ℕ = bit_at c.args.half in
    let end : EndBelow32 bits = λ j h. bit_at_above c.args.half 32 j c.requires h in
    spread-even c.spread_sixteens.result bits (c.spread_sixteens.ensures bits end (c.part_runs.ensures bits end (IsSpread-whole c.args.half c.requires)))

pub returns-clause-at_odd : goal.returns-clause-at_odd
returns-clause-at_odd c =
    let bits : ℕ → ℕ = bit_at c.args.half in
    let end : EndBelow32 bits = λ j h. bit_at_above c.args.half 32 j c.requires h in
    spread-odd c.spread_sixteens.result bits (c.spread_sixteens.ensures bits end (c.part_runs.ensures bits end (IsSpread-whole c.args.half c.requires)))
