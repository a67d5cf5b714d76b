-- What is left of an answer that is written at the end. This is the project's own.
use Rattle.std.specs.Prelude.{◌≡◌, ◌⊎◌, ◌≤◌, List, ℕ}
use Rattle.link_base.specs.Faults.{Rose}
use Rattle.link_base.specs.Sink.{Taken, Appends, AppendsFront}
use Rattle.link_run_feed.specs.declared.status.Status.{Status}
use Rattle.link_run_feed.specs.declared.status.Status.TheVariants.{WriteFault}

-- The whole text was written, and the status is the answer's.
pub record IsWhole (answer : Status) (text : List ℕ) (old new : Taken) (result : Status) : Type 0 where
  pub status : result ≡ answer
  pub written : Appends text old new
  pub count : new.faults ≡ old.faults

-- A write failed, and a front of the text was written.
pub record IsCut (text : List ℕ) (old new : Taken) (result : Status) : Type 0 where
  pub status : result ≡ WriteFault
  pub front : AppendsFront text old new
  pub never_falls : old.faults ≤ new.faults
  pub rose : Rose old.faults new.faults

abbrev pub IsGiven : Status → List ℕ → Taken → Taken → Status → Type 0
IsGiven answer text old new result = IsWhole answer text old new result ⊎ IsCut text old new result
