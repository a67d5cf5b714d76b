use Rattle.std.proofs.Common.{◌∙◌, rules, Fits}
use Rattle.std.specs.Int.{w64}
use Rattle.std.proofs.lemmas.Nat.Bits.{bit_at_above}
use Rattle.sample_bits.proofs.SpreadLemmas.{woven-even, woven-odd}
use Rattle.sample_bits.proofs.interleaving.weave_long.Goals as goal

pub returns-clause-at_even : goal.returns-clause-at_even
returns-clause-at_even c j =
    woven-even c.spread.result c.spread-2.result j c.spread-2.ensures.at_odd ∙ c.spread.ensures.at_even j

pub returns-clause-at_odd : goal.returns-clause-at_odd
returns-clause-at_odd c j =
    let fits : Fits w64 c.spread-2.result = search rules in
    woven-odd c.spread.result c.spread-2.result j fits.fits (c.spread.ensures.at_odd j) (λ k h. c.spread-2.ensures.at_even k ∙ bit_at_above c.args.odd 32 k c.requires.odd_half h)
    ∙ c.spread-2.ensures.at_even j
