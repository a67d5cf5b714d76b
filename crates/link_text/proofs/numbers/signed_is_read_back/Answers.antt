use Rattle.link_text.proofs.DecimalLemmas.{signed_value-signed_decimal, signed_decimal-signed_value}
use Rattle.link_text.proofs.numbers.signed_is_read_back.Goals as goal

pub returns-clause-back : goal.returns-clause-back
returns-clause-back c = signed_value-signed_decimal c.args.v c.ranges.v.sfits

pub returns-clause-only : goal.returns-clause-only
returns-clause-only c = λ text. signed_decimal-signed_value text c.args.v c.ranges.v.sfits
