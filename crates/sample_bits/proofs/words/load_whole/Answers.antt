use Rattle.std.proofs.Common.{◌∙◌, ap, w64}
use Rattle.std.specs.Int.{bit_at, from_le_bytes}
use Rattle.sample_bits.proofs.OctetLemmas.{loaded-whole}
use Rattle.sample_bits.proofs.words.load_whole.Goals as goal

pub returns : goal.returns
returns c j h =
    ap (λ v. bit_at v j) (c.from_le_bytes.ensures ∙ ap (from_le_bytes w64) c.copy_from_slice.ensures.after)
    ∙ loaded-whole c.args.octets.now j c.requires (λ i. (c.type_inv.octets i).fits) h
