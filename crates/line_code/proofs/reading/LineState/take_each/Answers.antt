use Rattle.std.proofs.Common.{◌+◌, ◌++◌, arith}
use Rattle.line_code.specs.Packed.{word_at, four_symbols}
use Rattle.line_code.proofs.ReadSymbols.{reads_both, reads_four}
use Rattle.line_code.proofs.reading.LineState.take_each.Goals as goal

pub returns : goal.returns
returns c =
    let octets = c.args.octets.now in
    let at = c.args.at in
    let start = c.args.self in
    let one = c.take_four.result in
    let two = c.take_four-2.result in
    let three = c.take_four-3.result in
    let all = c.take_four-4.result in
    let f1 = four_symbols (word_at octets (at + 5)) in
    let f2 = four_symbols (word_at octets (at + 10)) in
    let f3 = four_symbols (word_at octets (at + 15)) in
    let a = reads_four start.disparity one.disparity start.violations one.violations _ (word_at octets at) c.word_at.ensures.value c.take_four.ensures.violations c.take_four.ensures.disparity in
    let b = reads_four one.disparity two.disparity one.violations two.violations _ (word_at octets (at + 5)) c.word_at-2.ensures.value c.take_four-2.ensures.violations c.take_four-2.ensures.disparity in
    let d = reads_four two.disparity three.disparity two.violations three.violations _ (word_at octets (at + 10)) c.word_at-3.ensures.value c.take_four-3.ensures.violations c.take_four-3.ensures.disparity in
    let e = reads_four three.disparity all.disparity three.violations all.violations _ (word_at octets (at + 15)) c.word_at-4.ensures.value c.take_four-4.ensures.violations c.take_four-4.ensures.disparity in
    let de = reads_both two.disparity three.disparity all.disparity two.violations three.violations all.violations f2 f3 d e in
    let bde = reads_both one.disparity two.disparity all.disparity one.violations two.violations all.violations f1 (f2 ++ f3) b de in
    let abde = reads_both start.disparity one.disparity all.disparity start.violations one.violations all.violations (four_symbols (word_at octets at)) (f1 ++ (f2 ++ f3)) a bde in
    record { violations = abde.violations; disparity = abde.disparity; few = omega (arith, c.take_four.ensures.few, c.take_four-2.ensures.few, c.take_four-3.ensures.few, c.take_four-4.ensures.few) }
