use Rattle.std.proofs.Common.{◌∙◌, ap, get_or}
use Rattle.line_code.specs.declared.tables.TheConstants.{SPELLED}
use Rattle.line_code.specs.Decoded.{is_octet_by, is_octet}
use Rattle.line_code.specs.Tables.{entry_decoded}
use Rattle.line_code.proofs.DecodeTable.{is_octet_of_entry, decoded_spells}
use Rattle.line_code.proofs.Spelling.{decoded_is}
use Rattle.line_code.proofs.decoder.is_octet.Goals as goal

pub returns : goal.returns
unfolding is_octet
returns c =
    let bits = c.args.sym.bits in
    let small = c.args.sym.ten_bits in
    c.is_octet_entry.ensures ∙ is_octet_of_entry bits small
    ∙ ap is_octet_by (decoded_is bits (entry_decoded (get_or SPELLED bits 0)) (decoded_spells bits small))
