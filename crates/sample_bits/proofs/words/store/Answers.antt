use Rattle.std.proofs.Common.{◌+◌, ◌-◌, ◌∙◌, length, take, ap, arith, w64}
use Rattle.std.specs.Int.{to_le_bytes}
use Rattle.link_base.specs.Bits.{bit_of}
use Rattle.sample_bits.proofs.OctetLemmas.{bit_of-put_mid, bit_of-to_le_bytes, bit_of-take}
use Rattle.sample_bits.proofs.words.store.Goals as goal

pub returns-then-room-ge8-clause-written : goal.returns-then-room-ge8-clause-written
returns-then-room-ge8-clause-written c j h room =
    bit_of-put_mid c.args.at (c.args.at + 8 - c.args.at) c.args.octets.now c.copy_from_slice.new.self j (omega arith) (omega arith)
    ∙ ap (λ l. bit_of l j) (c.copy_from_slice.ensures.after ∙ c.to_le_bytes-bytes.ensures)
    ∙ bit_of-to_le_bytes c.args.word j h

pub returns-else-room-ge8-clause-written : goal.returns-else-room-ge8-clause-written
returns-else-room-ge8-clause-written c j h room =
    let size = length c.args.octets.now - c.args.at in
    let part = c.copy_from_slice-else-room-ge8.new.self in
    bit_of-put_mid c.args.at size c.args.octets.now part j c.requires (omega arith)
    ∙ ap (λ l. bit_of l j) (c.copy_from_slice-else-room-ge8.ensures.after ∙ ap (take size) c.to_le_bytes-bytes.ensures)
    ∙ bit_of-take size (to_le_bytes w64 c.args.word) j (omega arith)
    ∙ bit_of-to_le_bytes c.args.word j h
