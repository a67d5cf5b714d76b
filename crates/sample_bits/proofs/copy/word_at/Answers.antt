use Rattle.std.proofs.Common.{◌∙◌, arith}
use Rattle.sample_bits.proofs.OctetLemmas.{read-both, bit_of-rest}
use Rattle.sample_bits.proofs.copy.word_at.Goals as goal

pub returns-else-place-eq0 : goal.returns-else-place-eq0
returns-else-place-eq0 c j h =
    let l = c.args.octets.now in
    let o = c.args.place.octet in
    read-both l o c.args.place.bit c.load-low.result c.from.result j (omega arith) c.args.place.within_octet c.load-low.type_inv
    (λ i k. c.load-low.ensures i k ∙ bit_of-rest o l i) c.from.ensures h
