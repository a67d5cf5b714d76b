use Rattle.link_text.proofs.DecimalLemmas.{decimal_value-decimal, decimal-decimal_value}
use Rattle.link_text.proofs.numbers.decimal_is_read_back.Goals as goal

pub returns-clause-back : goal.returns-clause-back
returns-clause-back c = decimal_value-decimal c.args.n c.ranges.n.fits

pub returns-clause-only : goal.returns-clause-only
returns-clause-only c = λ text. decimal-decimal_value text c.args.n c.ranges.n.fits
