-- Samples of an antenna-carrier and their bits (CPRI Specification V7.0, section 4.2.7.2).
use Rattle.std.specs.Prelude.{ℕ, ◌-◌, ◌/◌, ◌%◌, ◌^◌, ◌==◌, if◌then◌else◌, ℤ, pos, negsuc, neg_ℤ, ◌≤ℤ◌, ◌<ℤ◌}
use Rattle.std.specs.Int.{bit_at}
use Rattle.sample_bits.specs.declared.iq.RawIq.{RawIq}

-- Bit j of a whole number in two's complement, as 0 or 1: `negsuc n` is -(n + 1), and has the bits of n turned over.
abbrev pub int_bit : ℤ → ℕ → ℕ
int_bit (pos n) j = bit_at n j
int_bit (negsuc n) j = 1 - bit_at n j

-- Bit k of a sample: I and Q take turns from their lowest bits on, I first.
abbrev pub sample_bit : RawIq → ℕ → ℕ
sample_bit s k = if k % 2 == 0 then int_bit s.i (k / 2) else int_bit s.q (k / 2)

-- z is a number of m bits in two's complement.
abbrev pub FitsBits : ℕ → ℤ → Type 0
FitsBits m z = (neg_ℤ (pos (2 ^ (m - 1))) ≤ℤ z) × (z <ℤ pos (2 ^ (m - 1)))

-- I and Q are numbers of m bits.
pub record IsWithin (m : ℕ) (s : RawIq) : Type 0 where
  pub i : FitsBits m s.i
  pub q : FitsBits m s.q
