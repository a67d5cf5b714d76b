-- How the bits of a frame that is coming in are kept. This is the project's own.
use Rattle.std.specs.Prelude.{◌≡◌, ℕ, ◌/◌, ◌%◌, ◌^◌, ◌<◌, ◌≤◌, Bool, List, All, ◌++◌, length, take}
use Rattle.hdlc_channel.specs.Bits.{low_bits, bits_of}

-- `len` bits, of which those after the last whole octet are the lowest ones of `last`
unfoldable pub content_bits : List ℕ → ℕ → ℕ → List Bool
content_bits octets len last = bits_of (take (len / 8) octets) ++ low_bits (len % 8) last

-- room for the octets of the longest frame with its sequence
pub record IsBuffer (octets : List ℕ) : Type 0 where
  pub len : length octets ≡ 1502
  pub small : All (λ x. x < 256) octets

pub record IsContent (octets : List ℕ) (len last : ℕ) : Type 0 where
  pub room : IsBuffer octets
  pub within : len ≤ 12023
  pub small : last < 2 ^ (len % 8)
