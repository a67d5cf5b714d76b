use Rattle.std.proofs.Common.{◌+◌, ◌%◌, ◌<◌, ◌∙◌, ap, arith}
use Rattle.line_code.proofs.DecodeTable.{past_by_ones}
use Rattle.line_code.proofs.Spelling.{violations_of_entry}
use Rattle.line_code.proofs.reading.LineState.take.Goals as goal

pub returns-clause-violations : goal.returns-clause-violations
returns-clause-violations c =
    ap (λ n. c.args.self.violations + n)
    (c.from.ensures ∙ c.violations_of.ensures.violations ∙ violations_of_entry c.args.self.disparity (c.args.word % 1024) (let small : c.args.word % 1024 < 1024 = omega arith in small))

pub returns-clause-disparity : goal.returns-clause-disparity
returns-clause-disparity c =
    c.disparity_past.ensures ∙ past_by_ones c.args.self.disparity (c.args.word % 1024) (let small : c.args.word % 1024 < 1024 = omega arith in small)
