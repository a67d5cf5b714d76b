use Rattle.link_text.proofs.HexadecimalLemmas.{none_decoded}
use Rattle.link_text.proofs.digits.octets.Goals as goal

pub returns-clause-none : goal.returns-clause-none
returns-clause-none c = rw c.then_some.ensures (none_decoded c.args.text.now c.decode.result _ c.decode.ensures.digits)
