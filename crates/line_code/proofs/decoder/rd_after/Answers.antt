use Rattle.std.proofs.Common.{◌∙◌}
use Rattle.line_code.proofs.DecodeTable.{past_by_ones}
use Rattle.line_code.proofs.decoder.rd_after.Goals as goal

pub returns : goal.returns
returns c = c.disparity_past.ensures ∙ past_by_ones c.args.rd c.args.sym.bits c.args.sym.ten_bits
