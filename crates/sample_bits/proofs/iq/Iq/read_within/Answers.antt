use Rattle.std.proofs.Common.{◌+◌, ◌*◌, ◌∙◌, arith}
use Rattle.sample_bits.proofs.SampleOfBits.{sample_at-word}
use Rattle.sample_bits.proofs.iq.Iq.read_within.Goals as goal

pub returns : goal.returns
returns g c =
    c.wide.ensures.value
    ∙ sample_at-word g.row.M c.args.octets.now (8 * c.args.octet + c.args.bit) c.word_within.result c.deinterleave.result (omega arith) (omega arith)
    c.deinterleave.ensures.within c.deinterleave.ensures.bits c.word_within.ensures.bits
