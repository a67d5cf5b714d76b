use Rattle.std.proofs.Common.{◌≡◌, ℕ, ◌+◌, ◌*◌, ◌/◌, ◌%◌, ◌^◌, ◌∙◌, ap, arith}
use Rattle.link_base.specs.Bits.{bit_of}
use Rattle.sample_bits.proofs.BitLemmas.{bit_at-shr}
use Rattle.sample_bits.proofs.OctetLemmas.{bit_of-rest}
use Rattle.sample_bits.proofs.SignLemmas.{bit_at-low_mask}
use Rattle.sample_bits.proofs.iq.Iq.word_at.Goals as goal

pub returns-clause-bits : goal.returns-clause-bits
returns-clause-bits g c b h =
    let m = g.row.M in
    let octets = c.args.octets.now in
    let o : ℕ = c.args.from / 8 in
    let low : ℕ = c.args.from % 8 in
    let place : 8 * o + (low + b) ≡ c.args.from + b = omega arith in
    bit_at-low_mask (c.load.result / 2 ^ low) (2 * m) b (omega arith) h
    ∙ bit_at-shr c.load.result low b ∙ c.load.ensures (low + b) (omega arith) ∙ bit_of-rest o octets (low + b) ∙ ap (bit_of octets) place
