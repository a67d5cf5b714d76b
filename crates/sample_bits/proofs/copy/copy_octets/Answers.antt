use Rattle.std.proofs.Common.{◌+◌, ◌-◌, ◌∙◌, drop, ap, arith}
use Rattle.link_base.specs.Bits.{bit_of}
use Rattle.sample_bits.proofs.OctetLemmas.{bit_of-put_mid, bit_of-take, bit_of-drop}
use Rattle.sample_bits.proofs.copy.copy_octets.Goals as goal

pub returns-clause-copied : goal.returns-clause-copied
returns-clause-copied c j h =
    let from = c.args.from in
    let count = from + c.args.count - from in
    bit_of-put_mid c.args.at (c.args.at + c.args.count - c.args.at) c.args.dst.now c.copy_from_slice.new.self j (omega arith) (omega arith)
    ∙ ap (λ l. bit_of l j) c.copy_from_slice.ensures.after
    ∙ bit_of-take count (drop from c.args.src.now) j (omega arith)
    ∙ bit_of-drop from c.args.src.now j
