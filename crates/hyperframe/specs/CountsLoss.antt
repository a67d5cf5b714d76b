-- What a count of violations keeps of a list of basic frames.
use Rattle.std.specs.Prelude.{◌≡◌, ℕ, min, Bool, List, length}
use Rattle.hyperframe.specs.declared.loss.Los.{Los}
use Rattle.hyperframe.specs.Loss.{Counted, window, violations_in, is_lost}

abbrev pub counted : Bool → ℕ → Counted
counted first violations = record { first = first; violations = violations }

-- The count stands for these frames: it keeps how many frames and violations the window of the last one has, and
-- whether the signal is lost.
pub record CountsLoss (l : Los) (past : List Counted) : Type 0 where
  pub frames : l.frames ≡ length (window past)
  pub violations : l.violations ≡ min (violations_in (window past)) 4294967295
  pub lost : l.lost ≡ is_lost past
