-- How the counts of failures change over a call. This is the project's own.
use Rattle.std.specs.Prelude.{◌≡◌, ◌≢◌, ◌≤◌, ℕ, Bool, false}
use Rattle.link_base.specs.Faults.{Rose}
use Rattle.link_run_feed.specs.declared.status.Status.{Status}
use Rattle.link_run_feed.specs.declared.status.Status.TheVariants.{ReadFault, WriteFault}

-- A count of failures: it never falls, rose where this failure is answered, and else stays.
pub record FaultCounts (failed : Type 0) (before now : ℕ) : Type 0 where
  pub never_falls : before ≤ now
  pub rose : failed → Rose before now
  pub stays : ¬ failed → now ≡ before

-- The count of the shelf's failures: it never falls, rose after a read fault, and else stays. Of a call that reads a feed it
-- also may rise before a write fault: the settled text that a failed read leaves could not be written.
pub record CountsReads (reads_feed : Bool) (status : Status) (before now : ℕ) : Type 0 where
  pub never_falls : before ≤ now
  pub rose : status ≡ ReadFault → Rose before now
  pub stays : status ≢ ReadFault → (status ≡ WriteFault → reads_feed ≡ false) → now ≡ before
