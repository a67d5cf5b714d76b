-- Basic frames as octet lists (CPRI Specification V7.0, section 4.2.7.1).
use Rattle.std.specs.Prelude.{ℕ, ◌+◌, ◌*◌, List}
use Rattle.link_base.specs.Bits.{bit_of}

-- IQ bit x of a frame with words of y octets: bit x mod 8 of octet y + x div 8 (this project's own numbering)
abbrev pub iq_bit : ℕ → List ℕ → ℕ → ℕ
iq_bit y frame x = bit_of frame (8 * y + x)
