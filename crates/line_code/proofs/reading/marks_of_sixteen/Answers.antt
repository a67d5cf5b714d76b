use Rattle.std.proofs.Common.{◌+◌, ◌*◌, ◌/◌, ◌++◌, ◌≡◌, ◌∙◌, ap, subst, arith}
use Rattle.line_code.specs.Packed.{word_at, four_symbols}
use Rattle.line_code.specs.Tables.{AreMarkedBy}
use Rattle.line_code.proofs.CleanWords.{four_before}
use Rattle.line_code.proofs.reading.marks_of_sixteen.Goals as goal

pub returns : goal.returns
returns c =
    let octets = c.args.octets.now in
    let at = c.args.at in
    let m1 = c.marks_of_four-second.result in
    let m2 = c.marks_of_four-third.result in
    let m3 = c.marks_of_four-fourth.result in
    let m0 = c.marks_of_four-first.result in
    let last : c.long_word_at-4.result / 16777216 ≡ word_at octets (at + 15) = c.long_word_at-4.ensures.last ∙ ap (word_at octets) (omega arith) in
    let first = subst (λ s. AreMarkedBy s m0) c.long_word_at.ensures.first c.marks_of_four-first.ensures.marks in
    let second = subst (λ s. AreMarkedBy s m1) c.long_word_at-2.ensures.first c.marks_of_four-second.ensures.marks in
    let third = subst (λ s. AreMarkedBy s m2) c.long_word_at-3.ensures.first c.marks_of_four-third.ensures.marks in
    let fourth : AreMarkedBy (four_symbols (word_at octets (at + 15))) m3 = subst (λ w. AreMarkedBy (four_symbols w) m3) last c.marks_of_four-fourth.ensures.marks in
    let t3 = four_symbols (word_at octets (at + 15)) in
    let t2 = four_symbols (word_at octets (at + 10)) ++ t3 in
    let two = four_before (word_at octets (at + 10)) t3 m2 m3 (m2 + 16 * m3) third fourth (omega arith) in
    let three = four_before (word_at octets (at + 5)) t2 m1 (m2 + 16 * m3) (m1 + 16 * (m2 + 16 * m3)) second two (omega arith) in
    four_before (word_at octets at) (four_symbols (word_at octets (at + 5)) ++ t2) m0 (m1 + 16 * (m2 + 16 * m3)) _ first three (omega arith)
