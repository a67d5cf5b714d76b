-- How frames that are not yet written are kept: their octets stand one after another, those of the frame in hand first.
-- This is the project's own.
use Rattle.std.specs.Prelude.{◌≡◌, ℕ, ◌+◌, ◌*◌, ◌≤◌, Bool, true, false, List, [], ◌∷◌, length, take, drop, All}

-- the octets of the frame in hand that are not yet written, and the frames behind it
pub record Frames : Type 0 where
  pub frame : List ℕ
  pub queue : List (List ℕ)

-- the sum of lengths
abbrev pub total : List ℕ → ℕ
total [] = 0
total (n ∷ lengths) = n + total lengths

-- frames by their lengths
abbrev pub cut : List ℕ → List ℕ → List (List ℕ)
cut [] octets = []
cut (n ∷ lengths) octets = take n octets ∷ cut lengths (drop n octets)

pub record IsQueue (left : ℕ) (lengths octets : List ℕ) (lengths_room octets_room : ℕ) : Type 0 where
  pub whole : left + total lengths ≡ length octets
  pub fits : total lengths + 2 * length lengths ≤ 8192
  pub in_hand : left ≤ 1522
  pub each : All (λ n. n ≤ 1522) lengths
  pub some : All (λ n. 1 ≤ n) lengths
  pub few_frames : lengths_room ≡ 2730
  pub few_octets : octets_room ≡ 9714

-- The oldest frame is taken in hand, or there is none.
abbrev pub begins : Frames → Bool → Frames → Type 0
begins old true new = old.queue ≡ new.frame ∷ new.queue
begins old false new = (old.queue ≡ []) × (new ≡ old)
