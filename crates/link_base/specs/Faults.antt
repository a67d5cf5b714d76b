-- How failures of the outside are counted. This is the project's own.
use Rattle.std.specs.Prelude.{◌≡◌, ℕ, ◌+◌, ◌-◌, ◌^◌, ◌≤◌, min, Result}
use Rattle.std.specs.Prelude.{MatchResult}
use Rattle.link_base.specs.declared.outside.Failed.{Failed}

-- the last value that a count of faults can show
abbrev pub last_count : ℕ
last_count = 2 ^ 64 - 1

-- A fault was counted between these two counts. A count that stands at its last value counts as risen.
abbrev pub Rose : ℕ → ℕ → Type 0
Rose before now = min (before + 1) last_count ≤ now

-- The count never falls, stays where the call answers Ok, and rose where the call failed.
pub record HasCause {T : Type 0} (before now : ℕ) (result : Result T Failed) : Type 0 where
  pub never_falls : before ≤ now
  pub by_result : MatchResult result (λ _. now ≡ before) (λ _. Rose before now)
