-- What reading a plan's file gives, and where it stands after a failure. This is the project's own.
use Rattle.std.specs.Prelude.{◌≡◌, ◌⊎◌, ◌+◌, ◌≤◌, ℕ, List, length, take, Some, None}
use Rattle.std.specs.FinMap.{get}
use Rattle.link_base.specs.Shelf.{Files, Shown}

-- the octets of a plan's file that are read at most
abbrev pub plan_limit : ℕ
plan_limit = 65_537

-- These are the octets of the file of this name, as far as they are read.
pub record IsPlanFile (name : List ℕ) (held : Files) (octets : List ℕ) : Type 0 where
  pub whole : List ℕ
  pub held_here : get held name ≡ Some whole
  pub prefix : octets ≡ take plan_limit whole

-- The file could not be selected, or a read of it failed.
pub record FailsAtFile (name : List ℕ) (old new : Shown) : Type 0 where
  pub chosen : (new.chosen ≡ new.failed) ⊎ (new.chosen ≡ None)
  pub failed : (new.failed ≡ Some name) ⊎ ((new.failed ≡ None) × (get old.held name ≡ None))
  pub taken : (whole : List ℕ) → get old.held name ≡ Some whole → new.chosen ≡ Some name → length whole ≤ length new.left + plan_limit

-- A read of the selected file failed, after no more octets than are read of a plan.
pub record FailsToRead (old new : Shown) : Type 0 where
  pub taken : length old.left ≤ length new.left + plan_limit
  pub chosen : new.chosen ≡ old.chosen
  pub failed : new.failed ≡ old.chosen
