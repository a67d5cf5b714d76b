-- What a sink of text shows, and what its calls do to it. This is the project's own.
use Rattle.std.specs.Prelude.{◌≡◌, ℕ, ◌≤◌, Bool, IsTrue, List, ◌++◌, length, take}

pub record Taken : Type 0 where
  -- whether the octets below are told
  pub tells : Bool
  -- the octets taken so far
  pub written : List ℕ
  -- how many failures there were
  pub faults : ℕ

-- these octets were appended
pub record Appends (octets : List ℕ) (old new : Taken) : Type 0 where
  pub tells : new.tells ≡ old.tells
  pub written : IsTrue old.tells → new.written ≡ old.written ++ octets

-- the first octets of these were appended, from none to all
pub record AppendsFront (octets : List ℕ) (old new : Taken) : Type 0 where
  pub count : ℕ
  pub within : count ≤ length octets
  pub front : Appends (take count octets) old new
