-- What filling a buffer from a shelf leaves. This is the project's own.
use Rattle.std.specs.Prelude.{◌≡◌, ◌+◌, ◌<◌, ◌≤◌, [], ◌++◌, drop, ℕ, List, length, take}
use Rattle.link_base.specs.Shelf.{Shown}

-- The first k octets that were left are now the first k of the buffer.
pub record FillsTo (k : ℕ) (before after : List ℕ) (old new : Shown) : Type 0 where
  pub within : k ≤ length old.left
  pub fits : k ≤ length before
  pub buffer : after ≡ take k old.left ++ drop k before
  pub left : new.left ≡ drop k old.left
  pub chosen : new.chosen ≡ old.chosen
  pub failed : new.failed ≡ old.failed

-- The buffer is full, or the file is read to its end.
pub record Fills (k : ℕ) (before after : List ℕ) (old new : Shown) : Type 0 where
  pub prefix : FillsTo k before after old new
  pub end : k < length before → new.left ≡ []

-- A read of the selected file failed, after no more octets than the buffer has.
pub record FailsToFill (before : List ℕ) (old new : Shown) : Type 0 where
  pub taken : length old.left ≤ length new.left + length before
  pub chosen : new.chosen ≡ old.chosen
  pub failed : new.failed ≡ old.chosen
