use Rattle.line_code.proofs.CodeLaws.{spelled_small}
use Rattle.line_code.proofs.laws.spelled_in_ten_bits.Goals as goal

pub returns : goal.returns
returns c = spelled_small
