use Rattle.line_code.proofs.CodeLaws.{one_character}
use Rattle.line_code.proofs.laws.spells_one_character.Goals as goal

pub returns : goal.returns
returns c = one_character
