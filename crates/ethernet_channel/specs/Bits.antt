-- The bits of octets on the line: an octet is given and taken from its lowest bit on (CPRI Specification V7.0 section
-- 4.2.7.7.2 carries the groups in the octets of control words; that the lowest bit comes first is this project's own).
use Rattle.std.specs.Prelude.{ℕ, zero, suc, ◌/◌, ◌%◌, Bool, ◌==◌, List, [], ◌∷◌, flat_map}

-- the lowest k bits of a number, the lowest first
unfoldable pub low_bits : ℕ → ℕ → List Bool
low_bits zero n = []
low_bits (suc k) n = (n % 2 == 1) ∷ low_bits k (n / 2)

-- the eight bits of an octet
abbrev pub octet_bits : ℕ → List Bool
octet_bits n = low_bits 8 n

-- the bits of octets, one octet after another
abbrev pub bits_of : List ℕ → List Bool
bits_of octets = flat_map octet_bits octets
