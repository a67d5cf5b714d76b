-- The container of an antenna-carrier by mapping method 1, IQ sample based (CPRI Specification V7.0, section 4.2.7.2).
use Rattle.std.specs.Prelude.{ℕ, ◌*◌, ◌/◌, ◌%◌}
use Rattle.std.specs.Int.{div_ceil}

-- the bits that a basic frame has for s samples of I and Q in m bits each in k basic frames
abbrev pub prescribed_size : ℕ → ℕ → ℕ → ℕ
prescribed_size m s k = 2 * div_ceil (m * s) k

-- bit g of samples that stand one after another in so many bits each, given bit b of sample r
abbrev pub bit_in_run : ℕ → (ℕ → ℕ → ℕ) → ℕ → ℕ
bit_in_run width bits g = bits (g / width) (g % width)
