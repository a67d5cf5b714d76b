use Rattle.std.proofs.Common.{◌≡◌, ℕ, ◌+◌, ◌*◌, ◌/◌, ◌^◌, ◌∙◌, ap, arith}
use Rattle.link_base.specs.Bits.{bit_of}
use Rattle.sample_bits.proofs.BitLemmas.{bit_at-shr}
use Rattle.sample_bits.proofs.OctetLemmas.{bit_of-rest}
use Rattle.sample_bits.proofs.SignLemmas.{bit_at-low_mask}
use Rattle.sample_bits.proofs.iq.Iq.word_within.Goals as goal

pub returns-clause-bits : goal.returns-clause-bits
returns-clause-bits g c b h =
    let m = g.row.M in
    let octets = c.args.octets.now in
    let o : ℕ = c.args.octet in
    let low : ℕ = c.args.bit in
    let place : 8 * o + (low + b) ≡ 8 * o + low + b = omega arith in
    bit_at-low_mask (c.load_whole.result / 2 ^ low) (2 * m) b (omega arith) h
    ∙ bit_at-shr c.load_whole.result low b ∙ c.load_whole.ensures (low + b) (omega arith) ∙ bit_of-rest o octets (low + b) ∙ ap (bit_of octets) place
