use Rattle.std.proofs.Common.{ℕ}
use Rattle.std.specs.Int.{bit_at}
use Rattle.std.proofs.lemmas.Nat.Bits.{bit_at_above}
use Rattle.sample_bits.specs.Spread.{EndBelow32}
use Rattle.sample_bits.proofs.ShortLemmas.{beside, beside-lt, IsSpread-apart, woven_short-even, woven_short-odd}
use Rattle.sample_bits.proofs.SpreadLemmas.{spread-even, spread-odd}
use Rattle.sample_bits.proofs.interleaving.weave_short.Goals as goal

pub returns-clause-at_even : goal.returns-clause-at_even
returns-clause-at_even c j =
    let even = c.args.even in
    let odd = c.args.odd in
    let bits : ℕ → ℕ = bit_at (beside even odd) in
    let end : EndBelow32 bits = λ i h. bit_at_above (beside even odd) 32 i (beside-lt even odd c.requires.even_half c.requires.odd_half) h in
    let spread = c.spread_sixteens-both.ensures bits end (IsSpread-apart even odd c.requires.even_half c.requires.odd_half) in
    woven_short-even even odd c.spread_sixteens-both.result j c.requires.even_half c.requires.odd_half
    (spread-even c.spread_sixteens-both.result bits spread) (spread-odd c.spread_sixteens-both.result bits spread)

pub returns-clause-at_odd : goal.returns-clause-at_odd
returns-clause-at_odd c j =
    let even = c.args.even in
    let odd = c.args.odd in
    let bits : ℕ → ℕ = bit_at (beside even odd) in
    let end : EndBelow32 bits = λ i h. bit_at_above (beside even odd) 32 i (beside-lt even odd c.requires.even_half c.requires.odd_half) h in
    let spread = c.spread_sixteens-both.ensures bits end (IsSpread-apart even odd c.requires.even_half c.requires.odd_half) in
    woven_short-odd even odd c.spread_sixteens-both.result j c.requires.even_half c.requires.odd_half
    (spread-even c.spread_sixteens-both.result bits spread) (spread-odd c.spread_sixteens-both.result bits spread)
