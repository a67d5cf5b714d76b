use Rattle.link_run_send.proofs.OneLine.{symbols_are_one_line}
use Rattle.link_run_send.proofs.laws.symbols_are_one_line.Goals as goal

pub returns : goal.returns
returns c = symbols_are_one_line
