use Rattle.std.proofs.Common.{refl}
use Rattle.link_text.proofs.LaneLemmas.{values_are}
use Rattle.link_text.proofs.lanes.values.Goals as goal

pub returns : goal.returns
returns c = values_are _ _ _ _ c.args.digits c.fits-digits.0 c.fits-digits.1 refl
