-- A sample as a line: I and Q as decimals, with one space between them. This is the project's own.
use Rattle.std.specs.Prelude.{ℕ, ◌-◌, ◌^◌, Bool, ◌&&◌, ℤ, pos, neg_ℤ, int_le, int_lt, List, Option, Some, None, if◌then◌else◌}
use Rattle.link_text.specs.Decimals.{signed_value}
use Rattle.link_text.specs.Fields.{at_first_space}
use Rattle.sample_bits.specs.declared.iq.RawIq.{RawIq}

-- whether a number has m bits in two's complement
abbrev pub fits_bits : ℕ → ℤ → Bool
fits_bits m z = int_le (neg_ℤ (pos (2 ^ (m - 1)))) z && int_lt z (pos (2 ^ (m - 1)))

abbrev pub of_32_bits : Option ℤ → Option ℤ
of_32_bits None = None
of_32_bits (Some z) = if fits_bits 32 z then Some z else None

abbrev pub sample_by : Option ℤ → Option ℤ → Option RawIq
sample_by None q = None
sample_by (Some i) None = None
sample_by (Some i) (Some q) = Some (record { i = i; q = q })

abbrev pub sample_in : Option (List ℕ × List ℕ) → Option RawIq
sample_in None = None
sample_in (Some fields) = sample_by (of_32_bits (signed_value fields.0)) (of_32_bits (signed_value fields.1))

-- the sample of a line, if it is two numbers of 32 bits
unfoldable pub sample_of : List ℕ → Option RawIq
sample_of line = sample_in (at_first_space line)

-- whether I and Q have m bits each
abbrev pub is_within : ℕ → RawIq → Bool
is_within m v = fits_bits m v.i && fits_bits m v.q
