use Rattle.sample_bits.proofs.SpreadLemmas.{IsSpread-joined}
use Rattle.sample_bits.proofs.interleaving.join_runs.Goals as goal

pub returns : goal.returns
returns c bits end spread = IsSpread-joined c.args.x c.args.width c.args.mask bits c.requires.mask c.ranges.mask.fits end spread
