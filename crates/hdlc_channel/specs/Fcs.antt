-- The 16-bit frame checking sequence (ISO/IEC 13239): the remainder for the generator
-- x^16 + x^12 + x^5 + 1, as a register that takes one bit of the frame after another. The register's lowest bit is the
-- coefficient of x^15, so that 8408h is the generator without x^16.
use Rattle.std.specs.Prelude.{ℕ, zero, suc, ◌+◌, ◌-◌, ◌*◌, ◌/◌, ◌%◌, ◌==◌, bit_xor, if◌then◌else◌, Bool, List, [], ◌∷◌, length, take, slice_index}
use Rattle.hdlc_channel.specs.Bits.{bits_of}

-- the register is moved on by one place, and the generator is taken away where a 1 left it
unfoldable pub divided : ℕ → ℕ
divided register = bit_xor (register / 2) (if register % 2 == 1 then 0x8408 else 0)

-- the register after one bit
unfoldable pub register_step : ℕ → Bool → ℕ
register_step register bit = divided (bit_xor register (if bit then 1 else 0))

-- the register after bits
unfoldable pub register_after : ℕ → List Bool → ℕ
register_after register [] = register
register_after register (bit ∷ bits) = register_after (register_step register bit) bits

-- The sequence of octets: the register is ones at first, and its ones' complement is what is sent.
unfoldable pub fcs_of : List ℕ → ℕ
fcs_of octets = 0xffff - register_after 0xffff (bits_of octets)

-- a content without its last two octets, which are the sequence
unfoldable pub body_of : List ℕ → List ℕ
body_of octets = take (length octets - 2) octets

-- the sequence at the end of a content, low octet first
unfoldable pub field_of : List ℕ → ℕ
field_of octets = slice_index octets (length octets - 2) + 256 * slice_index octets (length octets - 1)

-- the two octets of a sequence, low octet first
unfoldable pub field_octets : ℕ → List ℕ
field_octets fcs = (fcs % 256) ∷ (fcs / 256) ∷ []

-- the register after so many bits that are 0
unfoldable pub moved_on : ℕ → ℕ → ℕ
moved_on zero register = register
moved_on (suc n) register = moved_on n (divided register)
