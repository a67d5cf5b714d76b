-- The bits of octets on the line, and the octets that bits make up: an octet is sent and taken from its lowest bit on
-- (ISO/IEC 13239, order of bit transmission).
use Rattle.std.specs.Prelude.{ℕ, zero, suc, ◌+◌, ◌*◌, ◌/◌, ◌%◌, Bool, ◌==◌, if◌then◌else◌, List, [], ◌∷◌, flat_map}

-- the lowest k bits of a number, the lowest first
unfoldable pub low_bits : ℕ → ℕ → List Bool
low_bits zero n = []
low_bits (suc k) n = (n % 2 == 1) ∷ low_bits k (n / 2)

-- the eight bits of an octet
abbrev pub octet_bits : ℕ → List Bool
octet_bits n = low_bits 8 n

-- the bits of octets, one octet after another
abbrev pub bits_of : List ℕ → List Bool
bits_of octets = flat_map octet_bits octets

-- the number whose bits these are
unfoldable pub number_of : List Bool → ℕ
number_of [] = 0
number_of (bit ∷ bits) = (if bit then 1 else 0) + 2 * number_of bits

-- The octets of which each eight bits make up one. Fewer than eight at the end make up none.
unfoldable pub octets_of : List Bool → List ℕ
octets_of (a ∷ b ∷ c ∷ d ∷ e ∷ f ∷ g ∷ h ∷ bits) = number_of (a ∷ b ∷ c ∷ d ∷ e ∷ f ∷ g ∷ h ∷ []) ∷ octets_of bits
octets_of _ = []
