-- The entries of a run that can be compared with its samples. This is the project's own.
use Rattle.std.specs.Prelude.{ℕ, ◌*◌, ◌<◌}
use Rattle.link_receiver.specs.declared.entry.Entry.{Entry}

-- the entry is of a sample of Y carriers in h ticks
pub record IsInRun (Y h : ℕ) (e : Entry) : Type 0 where
  pub carrier : e.carrier < Y
  pub number : e.number < 4 * h
