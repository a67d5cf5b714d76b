-- Bits that a reader takes without an answer: they end no flag, and hold no seventh 1 in a row. This is the project's own.
use Rattle.std.specs.Prelude.{ℕ, ◌+◌, ◌*◌, ◌==◌, min, if◌then◌else◌, Bool, true, false, List, [], ◌∷◌, length, Option, Some, None}
use Rattle.hdlc_channel.specs.Bits.{octet_bits, number_of}

abbrev pub with_bit : Bool → Option (ℕ × List Bool) → Option (ℕ × List Bool)
with_bit bit None = None
with_bit bit (Some (ones, bits)) = Some (ones, bit ∷ bits)

-- after so many 1s in a row: how many there are after these bits, and the bits without stuffing
unfoldable pub quiet_bits : ℕ → List Bool → Option (ℕ × List Bool)
quiet_bits ones [] = Some (ones, [])
quiet_bits ones (true ∷ bits) = if ones == 6 then None else with_bit true (quiet_bits (min 7 (ones + 1)) bits)
quiet_bits ones (false ∷ bits) =
    if ones == 5 then quiet_bits 0 bits
    else if ones == 6 then None
    else with_bit false (quiet_bits 0 bits)

-- the same as the table has it: the bits, their number, the 1s after them, and a mark
abbrev pub quiet_number : Option (ℕ × List Bool) → ℕ
quiet_number None = 0
quiet_number (Some (ones, bits)) = number_of bits + 256 * length bits + 4096 * ones + 32768

unfoldable pub quiet_entry : ℕ → ℕ → ℕ
quiet_entry ones octet = quiet_number (quiet_bits ones (octet_bits octet))
