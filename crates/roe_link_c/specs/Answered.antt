-- What a call from C leaves: an answer of `check`, by the definitions of the program, or why there is none. This is the
-- project's own.
use Rattle.std.specs.Prelude.{◌≡◌, ◌⊎◌, ◌<◌, ◌≤◌, ℕ, ℤ, pos, IsTrue, List, ◌++◌, drop, length}
use Rattle.link_run_feed.specs.declared.status.Status.{Status}
use Rattle.link_run_feed.specs.declared.status.Status.TheVariants.{NoMemory}
use Rattle.link_run_feed.specs.Code.{code_of}
use Rattle.link_run_plan.specs.OfOctets.{AnswersFile, ChecksFile, is_verdict}

-- the code of a buffer that has no room for the text; it is that of no status
abbrev pub too_short : ℕ
too_short = 9

-- The answer of `check` was given: its code, and its text at the front of the buffer, whose rest is as it was.
pub record IsTold (plan old new : List ℕ) (written : ℕ) (result : ℤ) : Type 0 where
  pub status : Status
  pub text : List ℕ
  pub answers : AnswersFile plan status text
  pub checks : ChecksFile plan status text
  pub verdict : IsTrue (is_verdict status)
  pub code : result ≡ pos (code_of status)
  pub count : written ≡ length text
  pub room : length text ≤ length old
  pub buffer : new ≡ text ++ drop (length text) old

-- The buffer has no room for the text of the answer, and is as it was.
pub record IsTooShort (plan old new : List ℕ) (written : ℕ) (result : ℤ) : Type 0 where
  pub status : Status
  pub text : List ℕ
  pub answers : AnswersFile plan status text
  pub code : result ≡ pos too_short
  pub count : written ≡ length text
  pub room : length old < length text
  pub buffer : new ≡ old

-- Memory was wanting, and the buffer is as it was.
pub record IsWanting (old new : List ℕ) (written : ℕ) (result : ℤ) : Type 0 where
  pub code : result ≡ pos (code_of NoMemory)
  pub count : written ≡ 0
  pub buffer : new ≡ old

abbrev pub IsAnswered : List ℕ → List ℕ → List ℕ → ℕ → ℤ → Type 0
IsAnswered plan old new written result = IsTold plan old new written result ⊎ (IsTooShort plan old new written result ⊎ IsWanting old new written result)
