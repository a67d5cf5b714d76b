use Rattle.std.proofs.Common.{refl, sym, ◌∙◌, eq-eqb}
use Rattle.std.proofs.lemmas.Bool.{ne_eqb}
use Rattle.line_code.proofs.DecodeTable.{Spells-entry, IsCheckOf-entry, IsCheckOf-none, not_spelled}
use Rattle.line_code.proofs.Spelling.{checked}
use Rattle.line_code.proofs.decoder.check.Goals as goal

pub returns-then-violations_of-eq0-clause-spelled : goal.returns-then-violations_of-eq0-clause-spelled
returns-then-violations_of-eq0-clause-spelled c =
    rw (c.character_of_entry.ensures, c.disparity_past.ensures)
    (IsCheckOf-entry c.args.rd c.args.sym.bits c.args.sym.ten_bits (eq-eqb _ 0 (sym c.violations_of.ensures.violations ∙ c.if-violations_of-eq0.true)))

pub returns-then-violations_of-eq0-clause-none : goal.returns-then-violations_of-eq0-clause-none
returns-then-violations_of-eq0-clause-none c =
    let spelled = Spells-entry c.args.rd c.args.sym.bits c.args.sym.ten_bits (eq-eqb _ 0 (sym c.violations_of.ensures.violations ∙ c.if-violations_of-eq0.true)) in
    (λ e. cc, λ none. absurd (none _ _ spelled))

pub returns-then-violations_of-eq0-clause-found : goal.returns-then-violations_of-eq0-clause-found
returns-then-violations_of-eq0-clause-found c = checked c.args.rd c.args.sym.bits _ (returns-then-violations_of-eq0-clause-spelled c)

pub returns-else-violations_of-eq0-clause-spelled : goal.returns-else-violations_of-eq0-clause-spelled
returns-else-violations_of-eq0-clause-spelled c =
    IsCheckOf-none c.args.rd c.args.sym.bits
    (not_spelled c.args.rd c.args.sym.bits (ne_eqb _ 0 (λ e. c.if-violations_of-eq0.false (c.violations_of.ensures.violations ∙ e))))

pub returns-else-violations_of-eq0-clause-none : goal.returns-else-violations_of-eq0-clause-none
returns-else-violations_of-eq0-clause-none c =
    (λ e. not_spelled c.args.rd c.args.sym.bits (ne_eqb _ 0 (λ e. c.if-violations_of-eq0.false (c.violations_of.ensures.violations ∙ e))), λ none. refl)

pub returns-else-violations_of-eq0-clause-found : goal.returns-else-violations_of-eq0-clause-found
returns-else-violations_of-eq0-clause-found c = checked c.args.rd c.args.sym.bits _ (returns-else-violations_of-eq0-clause-spelled c)
