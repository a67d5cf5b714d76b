use Rattle.link_text.proofs.LaneLemmas.{mask_tells}
use Rattle.link_text.proofs.lanes.are_digits.Goals as goal

pub returns : goal.returns
returns c = mask_tells c.args.values c.fits-values.0
