use Rattle.std.proofs.Common.{◌%◌, ◌<◌, arith}
use Rattle.line_code.proofs.MarkTable.{marks_of_symbol, marks_few}
use Rattle.line_code.proofs.reading.marks_of.Goals as goal

pub returns-clause-marks : goal.returns-clause-marks
returns-clause-marks c = marks_of_symbol (c.args.word % 1024) (let small : c.args.word % 1024 < 1024 = omega arith in small)

pub returns-clause-few : goal.returns-clause-few
returns-clause-few c =
    marks_few (c.args.word % 1024) _ (marks_of_symbol (c.args.word % 1024) (let small : c.args.word % 1024 < 1024 = omega arith in small))
