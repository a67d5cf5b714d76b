use Rattle.line_code.proofs.PackedSymbols.{symbols_in-append}
use Rattle.line_code.proofs.laws.symbols_of_pieces.Goals as goal

pub returns : goal.returns
returns c = symbols_in-append
