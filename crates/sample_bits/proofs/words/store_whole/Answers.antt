use Rattle.std.proofs.Common.{◌+◌, ◌-◌, ◌∙◌, ap, arith}
use Rattle.link_base.specs.Bits.{bit_of}
use Rattle.sample_bits.proofs.OctetLemmas.{bit_of-put_mid, bit_of-to_le_bytes}
use Rattle.sample_bits.proofs.words.store_whole.Goals as goal

pub returns-clause-written : goal.returns-clause-written
returns-clause-written c j h =
    bit_of-put_mid c.args.at (c.args.at + 8 - c.args.at) c.args.octets.now c.copy_from_slice.new.self j (omega arith) (omega arith)
    ∙ ap (λ l. bit_of l j) (c.copy_from_slice.ensures.after ∙ c.to_le_bytes.ensures)
    ∙ bit_of-to_le_bytes c.args.word j h
