use Rattle.std.specs.Prelude.{⊤}
use Rattle.std.specs.Int.Count.{ones}
use Rattle.line_code.specs.Code.{six_bits_at_minus, four_bits_table, alternate_bits, alternate_for, ones_in, complement}
use Rattle.line_code.specs.Code.{disparity_past, six_bits, four_bits, spelling, disparity_after, number_of, symbol_of}
use Rattle.line_code.specs.Tables.{entry_character, disparity_past as disparity_past_entry, violations_of, is_comma_entry, is_octet_entry}

-- what a proof unfolds to compute the code on literals
unfoldable pub code_on_literals : ⊤
unfolding ones six_bits_at_minus four_bits_table alternate_bits alternate_for ones_in complement disparity_past six_bits four_bits spelling disparity_after number_of symbol_of entry_character disparity_past_entry violations_of is_comma_entry is_octet_entry
code_on_literals = tt
