use Rattle.std.proofs.Common.{◌≡◌, Bool, true, false, not, cond, refl, ap, sym, ◌∙◌}
use mathlib.Core.Bool.{beq}
use Rattle.line_code.specs.declared.characters.Rd.{Rd}
use Rattle.line_code.specs.declared.characters.Rd.TheVariants.{Minus, Plus}
use Rattle.line_code.specs.Tables.{is_plus, opposite}
use Rattle.line_code.proofs.tables.turned.Goals as goal

becomes_plus : (rd : Rd) (turns : Bool) → not (beq (is_plus rd) turns) ≡ true → Plus ≡ cond turns (opposite rd) rd
becomes_plus Minus true h = refl
becomes_plus Minus false h = cc
becomes_plus Plus true h = cc
becomes_plus Plus false h = refl

becomes_minus : (rd : Rd) (turns : Bool) → not (beq (is_plus rd) turns) ≡ false → Minus ≡ cond turns (opposite rd) rd
becomes_minus Minus true h = cc
becomes_minus Minus false h = refl
becomes_minus Plus true h = refl
becomes_minus Plus false h = cc

pub returns-then-is_plus-turns : goal.returns-then-is_plus-turns
returns-then-is_plus-turns c = becomes_plus c.args.rd c.args.turns (ap (λ p. not (beq p c.args.turns)) (sym c.is_plus.ensures) ∙ c.if-is_plus-turns.true)

pub returns-else-is_plus-turns : goal.returns-else-is_plus-turns
returns-else-is_plus-turns c = becomes_minus c.args.rd c.args.turns (ap (λ p. not (beq p c.args.turns)) (sym c.is_plus.ensures) ∙ c.if-is_plus-turns.false)
