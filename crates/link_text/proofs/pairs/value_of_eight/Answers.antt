use Rattle.core.proofs.dec2flt.Eight.{eight_is}
use Rattle.link_text.proofs.pairs.value_of_eight.Goals as goal

pub returns : goal.returns
returns c values eight is = eight_is values c.args.digits eight is
