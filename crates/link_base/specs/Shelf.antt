-- What a shelf of files shows, and what its calls do to it. This is the project's own.
use Rattle.std.specs.Prelude.{◌≡◌, ℕ, ◌<◌, ◌≤◌, Bool, IsTrue, List, [], ◌++◌, length, take, drop, Option, Some, None, if◌then◌else◌}
use Rattle.std.specs.Ordering.{nat_cmp}
use Rattle.std.specs.Cmp.Lexicographic.{slice_cmp}
use Rattle.std.specs.FinMap.{FinMap, get, contains_key}

-- the octets of each file that is held, by the octets of its name, in byte order
abbrev pub Files : Type 0
Files = FinMap (slice_cmp nat_cmp) (List ℕ)

pub record Shown : Type 0 where
  -- whether the four facts below are told
  pub tells : Bool
  pub held : Files
  -- the octets of the selected file that are not yet read
  pub left : List ℕ
  -- the name of the selected file
  pub chosen : Option (List ℕ)
  -- the name of the file at which the last failure since the last select that was Ok arose
  pub failed : Option (List ℕ)
  -- how many failures there were
  pub faults : ℕ

-- the name, where a file of this name is held
abbrev pub held_name : Files → List ℕ → Option (List ℕ)
held_name held name = if contains_key held name then Some name else None

-- the same files are held, and it is told of them as before
pub record SameFiles (old new : Shown) : Type 0 where
  pub tells : new.tells ≡ old.tells
  pub held : IsTrue old.tells → new.held ≡ old.held

-- The file of this name is selected, and none of it is read.
pub record Opens (name : List ℕ) (old new : Shown) : Type 0 where
  pub left : get old.held name ≡ Some new.left
  pub chosen : new.chosen ≡ Some name
  pub failed : new.failed ≡ None

-- No file is selected, and the failure is this name's if it is a name of a file.
pub record FailsToOpen (name : List ℕ) (old new : Shown) : Type 0 where
  pub left : new.left ≡ []
  pub chosen : new.chosen ≡ None
  pub failed : new.failed ≡ held_name old.held name

-- The first k octets that were left are now the first k of the buffer.
pub record Takes (k : ℕ) (before after : List ℕ) (old new : Shown) : Type 0 where
  pub within : k ≤ length old.left
  pub buffer : after ≡ take k old.left ++ drop k before
  pub left : new.left ≡ drop k old.left
  pub end : 0 < length before → k ≡ 0 → old.left ≡ []
  pub chosen : new.chosen ≡ old.chosen
  pub failed : new.failed ≡ old.failed

-- Nothing was taken, and the failure is the selected file's.
pub record FailsToTake (before after : List ℕ) (old new : Shown) : Type 0 where
  pub buffer : after ≡ before
  pub left : new.left ≡ old.left
  pub chosen : new.chosen ≡ old.chosen
  pub failed : new.failed ≡ old.chosen
