use Rattle.line_code.proofs.PackedSymbols.{length-symbols_in, bit_of_symbol}
use Rattle.line_code.proofs.laws.symbols_bit_by_bit.Goals as goal

pub returns-clause-count : goal.returns-clause-count
returns-clause-count c = length-symbols_in

pub returns-clause-bits : goal.returns-clause-bits
returns-clause-bits c = bit_of_symbol
