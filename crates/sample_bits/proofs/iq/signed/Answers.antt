use Rattle.sample_bits.proofs.SignLemmas.{FitsBits-signed, int_bit-signed, FitsSigned-raised, FitsSigned-half, FitsSigned-difference}
use Rattle.sample_bits.proofs.iq.signed.Goals as goal

pub overflow_cast-result : goal.overflow_cast-result
overflow_cast-result c = FitsSigned-raised c.args.width c.args.bits c.requires.most

pub overflow_cast-result-2 : goal.overflow_cast-result-2
overflow_cast-result-2 c = FitsSigned-half c.args.width c.requires.most

pub overflow_sub-result : goal.overflow_sub-result
overflow_sub-result c = FitsSigned-difference c.args.width c.args.bits c.requires.most

pub returns-clause-within : goal.returns-clause-within
returns-clause-within c = FitsBits-signed c.args.width c.args.bits c.requires.least c.requires.most c.requires.within

pub returns-clause-bits : goal.returns-clause-bits
returns-clause-bits c j h = int_bit-signed c.args.width c.args.bits j c.requires.least c.requires.most c.requires.within h
