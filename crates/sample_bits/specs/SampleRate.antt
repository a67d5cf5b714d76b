-- The rate and the width of the samples of an antenna-carrier: s samples of I and Q in m bits each in every k basic frames
-- (CPRI Specification V7.0, section 4.2.7.2).
use Rattle.std.specs.Prelude.{ℕ, ◌≡◌, ◌*◌, ◌≤◌}
use Rattle.std.specs.Int.{◌∣◌}

-- no number but 1 divides both
abbrev pub IsCoprime : ℕ → ℕ → Type 0
IsCoprime a b = (d : ℕ) → d ∣ a → d ∣ b → d ≡ 1

-- Blocks of k basic frames fill a radio frame of 10 ms, which has 150 hyperframes of 256 basic frames, and s/k is in
-- lowest terms. The greatest k and the greatest rate are this project's own.
pub record IsSampleRate (s k : ℕ) : Type 0 where
  pub divides : k ∣ 38_400
  pub short : k ≤ 96
  pub some_samples : 1 ≤ s
  pub slow : s ≤ 32 * k
  pub lowest_terms : IsCoprime s k

-- I and Q have 4 to 20 bits each. CPRI has 4 to 20 for the uplink and 8 to 20 for the downlink; one range for both is
-- this project's own.
abbrev pub IsSampleWidth : ℕ → Type 0
IsSampleWidth m = (4 ≤ m) × (m ≤ 20)
