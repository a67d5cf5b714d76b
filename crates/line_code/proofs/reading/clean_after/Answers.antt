use Rattle.std.proofs.Common.{◌+◌, ◌*◌, ◌/◌, ◌%◌, bit_xor, ap, arith}
use Rattle.line_code.specs.declared.characters.Rd.TheVariants.{Minus, Plus}
use Rattle.line_code.proofs.CleanWords.{clean_is}
use Rattle.line_code.proofs.reading.clean_after.Goals as goal

pub returns-then-before-eq1 : goal.returns-then-before-eq1
returns-then-before-eq1 c =
    let marks = c.args.marks in
    clean_is c.args.disparity Plus marks _ (ap (λ s. bit_xor (2 * (marks % 65536) + marks / 65536 % 65536 + s) (marks / 65536 % 65536)) c.number_of.ensures.value)
    c.if-at_minus-before.false c.if-at_plus-before-ne0.false c.if-before-eq1.true

pub returns-else-before-eq1 : goal.returns-else-before-eq1
returns-else-before-eq1 c =
    let marks = c.args.marks in
    clean_is c.args.disparity Minus marks _ (ap (λ s. bit_xor (2 * (marks % 65536) + marks / 65536 % 65536 + s) (marks / 65536 % 65536)) c.number_of.ensures.value)
    c.if-at_minus-before.false c.if-at_plus-before-ne0.false (omega (arith, c.if-before-eq1.false))
