use Rattle.line_code.proofs.CodeLaws.{next_by_ones}
use Rattle.line_code.proofs.laws.spelled_disparity_by_ones.Goals as goal

pub returns : goal.returns
returns c = next_by_ones
