-- Bits of an octet list that are copied from another one or put there from a word. This is the project's own.
use Rattle.std.specs.Prelude.{◌≡◌, ℕ, ◌+◌, ◌<◌, ◌≤◌, List, length}
use Rattle.std.specs.Int.{bit_at}
use Rattle.link_base.specs.Bits.{bit_of}

-- The bits at, at + 1 .. of the new list are the bits from, from + 1 .. of the source, as many as count says. All others stay.
pub record CopiesBits (src : List ℕ) (from : ℕ) (old new : List ℕ) (at count : ℕ) : Type 0 where
  pub same_length : length new ≡ length old
  pub copied : (j : ℕ) → j < count → bit_of new (at + j) ≡ bit_of src (from + j)
  pub before : (k : ℕ) → k < at → bit_of new k ≡ bit_of old k
  pub after : (k : ℕ) → at + count ≤ k → bit_of new k ≡ bit_of old k

-- The bits at, at + 1 .. of the new list are the lowest bits of the word, as many as count says. Those from there up to
-- bit `limit` may be any. All others stay.
pub record PutsBits (word : ℕ) (old new : List ℕ) (at count limit : ℕ) : Type 0 where
  pub same_length : length new ≡ length old
  pub put : (j : ℕ) → j < count → bit_of new (at + j) ≡ bit_at word j
  pub before : (k : ℕ) → k < at → bit_of new k ≡ bit_of old k
  pub after : (k : ℕ) → limit ≤ k → bit_of new k ≡ bit_of old k
