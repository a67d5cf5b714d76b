use Rattle.std.proofs.Common.{arith}
use Rattle.sample_bits.proofs.SampleOfBits.{sample_at-word}
use Rattle.sample_bits.proofs.iq.Iq.read.Goals as goal

pub returns : goal.returns
returns g c =
    sample_at-word g.row.M c.args.octets.now c.args.from c.word_at.result c.deinterleave.result (omega arith) (omega arith)
    c.deinterleave.ensures.within c.deinterleave.ensures.bits c.word_at.ensures.bits
