-- Where a bit stands in a block: s samples that k basic frames carry, in a container of the same size in each (CPRI
-- Specification V7.0, section 4.2.7.2).
use Rattle.std.specs.Prelude.{ℕ, ◌+◌, ◌*◌}

pub record BlockPlace : Type 0 where
  -- which of the k frames of the block, from 0
  pub phase : ℕ
  -- the bit of the container that this frame carries, from 0
  pub bit : ℕ

-- the same bit in the containers of a block, of so many bits each, one after another
abbrev pub bit_in_block : ℕ → BlockPlace → ℕ
bit_in_block size place = place.phase * size + place.bit
