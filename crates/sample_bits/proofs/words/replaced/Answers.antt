use Rattle.sample_bits.proofs.BitLemmas.{replaced-inside, replaced-before, replaced-after}
use Rattle.sample_bits.proofs.words.replaced.Goals as goal

pub returns-clause-copied : goal.returns-clause-copied
returns-clause-copied c j h = replaced-inside c.args.word c.args.bits c.args.at c.args.count j c.requires h

pub returns-clause-before : goal.returns-clause-before
returns-clause-before c k h = replaced-before c.args.word c.args.bits c.args.at c.args.count k c.ranges.word.fits c.requires h

pub returns-clause-after : goal.returns-clause-after
returns-clause-after c k h = replaced-after c.args.word c.args.bits c.args.at c.args.count k c.ranges.word.fits c.requires h
