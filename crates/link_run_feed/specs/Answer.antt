-- What a call answers where nothing fails: a status, and the whole text. This is the project's own.
use Rattle.std.specs.Prelude.{ℕ, Bool, true, false, List}
use Rattle.link_run_feed.specs.declared.status.Status.{Status}
use Rattle.link_run_feed.specs.declared.status.Status.TheVariants.{ReadFault, WriteFault, NoMemory}

pub record Answer : Type 0 where
  pub status : Status
  pub text : List ℕ

-- a status that is an answer, and neither a failure of the outside nor want of memory
abbrev pub is_answer : Status → Bool
is_answer ReadFault = false
is_answer WriteFault = false
is_answer NoMemory = false
is_answer _ = true
