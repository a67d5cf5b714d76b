use Rattle.std.proofs.Common.{◌∙◌, ◌++◌, drop, length, replicate, ap, w64}
use Rattle.std.specs.Int.{bit_at, from_le_bytes}
use Rattle.sample_bits.proofs.OctetLemmas.{loaded-part}
use Rattle.sample_bits.proofs.words.load_end.Goals as goal

pub returns : goal.returns
returns c j h =
    let octets = c.args.octets.now in
    ap (λ v. bit_at v j) (c.from_le_bytes.ensures ∙ ap (λ l. from_le_bytes w64 (l ++ drop (length octets) (replicate 8 0))) c.copy_from_slice.ensures.after)
    ∙ loaded-part octets j c.requires (λ i. (c.type_inv.octets i).fits) h
