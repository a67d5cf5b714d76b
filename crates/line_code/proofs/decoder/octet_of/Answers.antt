use Rattle.std.proofs.Common.{◌∙◌, ap, get_or}
use Rattle.line_code.specs.declared.tables.TheConstants.{SPELLED}
use Rattle.line_code.specs.Decoded.{octet_by, octet_of}
use Rattle.line_code.specs.Tables.{entry_decoded}
use Rattle.line_code.proofs.DecodeTable.{octet_of_entry, decoded_spells}
use Rattle.line_code.proofs.Spelling.{decoded_is}
use Rattle.line_code.proofs.decoder.octet_of.Goals as goal

pub returns : goal.returns
unfolding octet_of
returns c =
    let bits = c.args.sym.bits in
    let small = c.args.sym.ten_bits in
    c.octet_of_entry.ensures ∙ octet_of_entry bits small
    ∙ ap octet_by (decoded_is bits (entry_decoded (get_or SPELLED bits 0)) (decoded_spells bits small))
