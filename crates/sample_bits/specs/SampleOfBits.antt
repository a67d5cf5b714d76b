-- The sample that given bits stand for (CPRI Specification V7.0, section 4.2.7.2).
use Rattle.std.specs.Prelude.{ℕ, zero, suc, ◌+◌, ◌-◌, ◌*◌, ◌/◌, ◌^◌, ◌==◌, ℤ, pos, negsuc, List, if◌then◌else◌}
use Rattle.link_base.specs.Bits.{bit_of}
use Rattle.sample_bits.specs.declared.iq.RawIq.{RawIq}

-- the number of these m bits
abbrev pub number_of_bits : ℕ → (ℕ → ℕ) → ℕ
number_of_bits zero bits = 0
number_of_bits (suc m) bits = bits 0 + 2 * number_of_bits m (λ j. bits (j + 1))

-- what m bits of this number stand for in two's complement
abbrev pub in_complement : ℕ → ℕ → ℤ
in_complement m n = if n / 2 ^ (m - 1) == 0 then pos n else negsuc (2 ^ m - 1 - n)

-- the sample of I and Q in m bits each, whose bits take turns from the lowest on
unfoldable pub sample_of_bits : ℕ → (ℕ → ℕ) → RawIq
sample_of_bits m bits = record {
  i = in_complement m (number_of_bits m (λ j. bits (2 * j)));
  q = in_complement m (number_of_bits m (λ j. bits (2 * j + 1)));
}

-- the sample whose bits stand one after another from a bit of an octet list on
abbrev pub sample_at : ℕ → List ℕ → ℕ → RawIq
sample_at m octets from = sample_of_bits m (λ b. bit_of octets (from + b))
