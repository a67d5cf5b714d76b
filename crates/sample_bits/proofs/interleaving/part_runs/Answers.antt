use Rattle.sample_bits.proofs.SpreadLemmas.{IsSpread-parted}
use Rattle.sample_bits.proofs.interleaving.part_runs.Goals as goal

pub returns : goal.returns
returns c bits end spread = IsSpread-parted c.args.x c.args.width c.args.mask bits c.requires.mask c.ranges.mask.fits end spread
