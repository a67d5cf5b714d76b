-- A record of a capture. This is the project's own.
use Rattle.std.specs.Prelude.{ℕ, List}

-- octets that arrived at a tick
pub record Record : Type 0 where
  pub tick : ℕ
  pub octets : List ℕ
