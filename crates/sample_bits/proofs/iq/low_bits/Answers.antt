use Rattle.std.proofs.Common.{◌∙◌, ap, of_z, w32, arith}
use Rattle.std.specs.Int.{bit_at}
use Rattle.std.proofs.lemmas.Int.{to_z-of_z}
use Rattle.sample_bits.proofs.SignLemmas.{bit_at-low_mask, bit_at-of_z}
use Rattle.sample_bits.proofs.iq.low_bits.Goals as goal

pub returns-clause-bits : goal.returns-clause-bits
returns-clause-bits c j h =
    bit_at-low_mask c.from.result c.args.width j (omega arith) h
    ∙ ap (λ x. bit_at x j) (c.from.ensures ∙ c.cast_unsigned.ensures ∙ ap (of_z w32) (to_z-of_z w32 c.args.value c.ranges.value))
    ∙ bit_at-of_z c.args.value j c.ranges.value (omega arith)
