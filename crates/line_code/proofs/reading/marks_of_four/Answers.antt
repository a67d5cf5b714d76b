use Rattle.std.proofs.Common.{◌+◌, ◌*◌, ◌/◌, ◌%◌, [], ◌∷◌, arith}
use Rattle.line_code.proofs.CleanWords.{marked_one}
use Rattle.line_code.proofs.reading.marks_of_four.Goals as goal

pub returns-clause-marks : goal.returns-clause-marks
returns-clause-marks c =
    let word = c.args.word in
    let s1 = word / 1024 % 1024 in
    let s2 = word / 1048576 % 1024 in
    let s3 = word / 1073741824 % 1024 in
    let m1 = c.marks_of-2.result in
    let m2 = c.marks_of-3.result in
    let m3 = c.marks_of-4.result in
    let two = marked_one s2 (s3 ∷ []) m2 m3 (m2 + 2 * m3) c.marks_of-3.ensures.marks c.marks_of-4.ensures.marks (omega arith) in
    let three = marked_one s1 (s2 ∷ s3 ∷ []) m1 (m2 + 2 * m3) (m1 + 2 * (m2 + 2 * m3)) c.marks_of-2.ensures.marks two (omega arith) in
    marked_one (word % 1024) (s1 ∷ s2 ∷ s3 ∷ []) c.marks_of.result (m1 + 2 * (m2 + 2 * m3)) _ c.marks_of.ensures.marks three (omega arith)
