-- Bits that follow one another, of which the first stand in an octet list and the last are still in a word. This is the
-- project's own.
use Rattle.std.specs.Prelude.{◌≡◌, ℕ, ◌+◌, ◌*◌, ◌<◌, List}
use Rattle.std.specs.Int.{bit_at}
use Rattle.link_base.specs.Bits.{bit_of}

-- The bits before those of octet `octet` stand in the octets, and the next, as many as count says, in the word.
pub record IsFilled (bits : ℕ → ℕ) (octets : List ℕ) (octet word count : ℕ) : Type 0 where
  pub written : (k : ℕ) → k < 8 * octet → bit_of octets k ≡ bits k
  pub waiting : (j : ℕ) → j < count → bit_at word j ≡ bits (8 * octet + j)
