use Rattle.std.proofs.Common.{◌≡◌, true, false, Option, Some, None, refl, sym, ◌∙◌}
use Rattle.line_code.specs.declared.characters.Char.{Char}
use Rattle.line_code.specs.declared.characters.Char.TheVariants.{Octet, Comma}
use Rattle.line_code.specs.Decoded.{decoded, is_octet, is_octet_by}
use Rattle.roe_mappers.specs.Symbols.{other_by}
use Rattle.roe_mappers.proofs.symbols.other.Goals as goal

octet_is_no_other : (ch : Option Char) → is_octet_by ch ≡ true → 0 ≡ other_by ch
octet_is_no_other None h = cc
octet_is_no_other (Some Comma) h = cc
octet_is_no_other (Some (Octet octet)) h = refl

else_other : (ch : Option Char) → is_octet_by ch ≡ false → 1 ≡ other_by ch
else_other None h = refl
else_other (Some Comma) h = refl
else_other (Some (Octet octet)) h = cc

pub returns-then-is_octet-clause-other : goal.returns-then-is_octet-clause-other
unfolding is_octet
returns-then-is_octet-clause-other c = octet_is_no_other (decoded c.args.symbol.bits) (sym c.is_octet.ensures ∙ c.if-is_octet.true)

pub returns-else-is_octet-clause-other : goal.returns-else-is_octet-clause-other
unfolding is_octet
returns-else-is_octet-clause-other c = else_other (decoded c.args.symbol.bits) (sym c.is_octet.ensures ∙ c.if-is_octet.false)
