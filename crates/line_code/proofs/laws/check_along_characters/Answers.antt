use Rattle.line_code.proofs.LineLaws.{checks_along}
use Rattle.line_code.proofs.laws.check_along_characters.Goals as goal

pub returns : goal.returns
returns c = checks_along
