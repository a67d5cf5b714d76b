-- Loss of signal over a whole list of basic frames, each with whether it begins a hyperframe and with its count of
-- symbols that the line code does not spell (CPRI Specification V7.0, section 4.2.10.3.1: loss of signal is detected
-- when at least 16 such symbols come within one hyperframe, and ends when a whole hyperframe has none).
-- How the list is cut into windows is this project's own.
use Rattle.std.specs.Prelude.{ℕ, zero, suc, ◌-◌, ◌*◌, ◌/◌, ◌==◌, ◌&&◌, nat_le, Bool, false, true, if◌then◌else◌, List, [], ◌∷◌, length, drop, take, sum_by}
use Rattle.std.specs.List.{list_any}

-- whether a basic frame begins a hyperframe, and the violations in it
pub record Counted : Type 0 where
  pub first : Bool
  pub violations : ℕ

-- the frames from the last one on that begins a hyperframe, or all frames where none does
abbrev pub since_first : List Counted → List Counted
since_first [] = []
since_first (frame ∷ frames) = if list_any (λ later. later.first) frames then since_first frames else frame ∷ frames

-- a list without the windows of 256 frames before its last one
abbrev pub last_window : List Counted → List Counted
last_window frames = drop (256 * ((length frames - 1) / 256)) frames

-- The window of the last frame of a list. A window begins with the first frame, with each frame that begins a
-- hyperframe, and after each window of 256 frames.
abbrev pub window : List Counted → List Counted
window frames = last_window (since_first frames)

abbrev pub violations_in : List Counted → ℕ
violations_in frames = sum_by (λ frame. frame.violations) frames

-- whether a window has so many violations that the signal is lost
abbrev pub is_loss : List Counted → Bool
is_loss frames = nat_le 16 (violations_in frames)

-- whether a window is whole and has no violation
abbrev pub is_clear : List Counted → Bool
is_clear frames = length frames == 256 && violations_in frames == 0

-- Whether the signal is lost after the first n frames: as the last of them says whose window, up to that frame, is a
-- loss or clear. At first it is not lost.
unfoldable pub lost_after : ℕ → List Counted → Bool
lost_after zero frames = false
lost_after (suc n) frames =
    let now = window (take (suc n) frames) in
    if is_loss now then true else (if is_clear now then false else lost_after n frames)

-- whether the signal is lost after these frames
unfoldable pub is_lost : List Counted → Bool
is_lost frames = lost_after (length frames) frames
