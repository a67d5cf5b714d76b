-- Bits of an octet list, where bit 0 of an octet is its lowest bit. This is the project's own.
use Rattle.std.specs.Prelude.{ℕ, ◌/◌, ◌%◌, List, slice_index}
use Rattle.std.specs.Int.{bit_at}

-- Bit k of the octets is bit k mod 8 of octet k div 8, as 0 or 1. Past the end it is 0.
abbrev pub bit_of : List ℕ → ℕ → ℕ
bit_of octets k = bit_at (slice_index octets (k / 8)) (k % 8)
