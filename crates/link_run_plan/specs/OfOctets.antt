-- The answer of `check` to the octets of a plan's file, as a value. This is the project's own.
use Rattle.std.specs.Prelude.{◌≡◌, ℕ, Bool, true, false, List, [], Some}
use Rattle.std.specs.FinMap.{get}
use Rattle.link_base.specs.Shelf.{Files}
use Rattle.link_base.specs.Sink.{Taken, Appends}
use Rattle.link_run_feed.specs.declared.status.Status.{Status}
use Rattle.link_run_feed.specs.declared.status.Status.TheVariants.{Done, No, PlanText}
use Rattle.link_run_plan.specs.Check.{check}
use Rattle.link_run_plan.specs.ChecksPlan.{ChecksPlan}

-- This is the answer of `check` to a file with these octets, whatever its name and the files beside it.
abbrev pub AnswersFile : List ℕ → Status → List ℕ → Type 0
AnswersFile octets status text = (name : List ℕ) (held : Files) → get held name ≡ Some octets → (check name held).answer ≡ record { status = status; text = text }

-- a sink that took this text
abbrev pub took : List ℕ → Taken
took text = record { tells = true; written = text; faults = 0 }

-- The answer is yes exactly of a plan that meets the rules, and else its first failure.
abbrev pub ChecksFile : List ℕ → Status → List ℕ → Type 0
ChecksFile octets status text = (name : List ℕ) (held : Files) → get held name ≡ Some octets → ChecksPlan name held (took []) (took text) status

-- a status that `check` gives to a file
abbrev pub is_verdict : Status → Bool
is_verdict Done = true
is_verdict (No rule item) = true
is_verdict (PlanText fault) = true
is_verdict _ = false

-- The answer to a file with these octets was given, with its whole text.
pub record IsTold (octets : List ℕ) (old new : Taken) (status : Status) : Type 0 where
  pub text : List ℕ
  pub answers : AnswersFile octets status text
  pub written : Appends text old new
