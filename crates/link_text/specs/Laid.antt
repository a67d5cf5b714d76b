-- Text that is laid out behind another one, in octets that are more than both. This is the project's own.
use Rattle.std.specs.Prelude.{◌≡◌, ℕ, ◌+◌, ◌≤◌, List, ◌++◌, length, take}

-- The text stands behind the one in the first `at` octets, and the two end at `end`. The octets behind may be any.
pub record Lays (text old : List ℕ) (at : ℕ) (new : List ℕ) (end : ℕ) : Type 0 where
  pub same_length : length new ≡ length old
  pub within : end ≤ length new
  pub ends : end ≡ at + length text
  pub laid : take end new ≡ take at old ++ text
