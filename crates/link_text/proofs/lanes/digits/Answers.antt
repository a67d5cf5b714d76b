use Rattle.std.proofs.Common.{refl}
use Rattle.link_text.proofs.DigitLanes.{digits_are}
use Rattle.link_text.proofs.lanes.digits.Goals as goal

pub returns : goal.returns
returns c = digits_are _ _ c.args.values c.fits-values.0 c.fits-values.1 refl
