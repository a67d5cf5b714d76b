use Rattle.std.proofs.Common.{◌/◌, ◌<◌, rules, arith, sym, ◌∙◌}
use lib.Count.{count_trailing_zeros}
use Rattle.core.proofs.dec2flt.Eight.{bytes_up, first_other, lanes_are, shifted_is}
use Rattle.link_text.proofs.WordNumbers.{few_are_small}
use Rattle.link_text.proofs.pairs.digits_in.Goals as goal

pub returns-clause-value : goal.returns-clause-value
returns-clause-value c octets eight is =
    let count = count_trailing_zeros 64 c.flags_from_ten-others.result / 8 in
    let first = first_other octets c.args.word eight is _ c.flags_from_ten-others.ensures (omega (arith, c.if-others-eq0.false)) in
    let digits = shifted_is octets count _ eight (omega (arith, first.0)) (omega (arith, first.1)) (bytes_up _ count first.1 ∙ rw (lanes_are octets c.args.word eight is)) in
    (sym first.0, c.value_of_eight.ensures digits.0 digits.1 digits.2 ∙ digits.3)

pub returns-clause-small : goal.returns-clause-small
returns-clause-small c =
    let few : count_trailing_zeros 64 c.flags_from_ten-others.result / 8 < 8 = search rules in
    few_are_small c.args.word _ c.value_of_eight.result c.ranges.word.fits few (returns-clause-value c)
