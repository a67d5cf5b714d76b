-- What a list of received basic frames says of synchronization, of the signal and of control words. A frame is the list of its
-- symbols. The first frame of a line begins at negative disparity.
use Rattle.std.specs.Prelude.{ℕ, ◌-◌, ◌==◌, Bool, false, List, [], ◌∷◌, ◌++◌, map, length, take, drop, slice_index, flat_map, Option, Some, None}
use Rattle.line_code.specs.declared.characters.Rd.{Rd}
use Rattle.line_code.specs.declared.characters.Rd.TheVariants.{Minus}
use Rattle.hyperframe.specs.declared.synchronization.SyncState.{SyncState}
use Rattle.hyperframe.specs.declared.synchronization.SyncState.TheVariants.{Held}
use Rattle.hyperframe.specs.Locks.{sync_state, sync_x}
use Rattle.hyperframe.specs.Loss.{Counted, violations_in as violations_of, is_lost}
use Rattle.line_code.specs.Decoded.{violations_in, disparity_along, octet_of, is_comma}

-- whether a frame's first character is the comma
unfoldable pub has_comma : List ℕ → Bool
has_comma frame = is_comma (slice_index frame 0)

abbrev pub commas : List (List ℕ) → List Bool
commas frames = map has_comma frames

-- the disparity after frames
unfoldable pub disparity_after : Rd → List (List ℕ) → Rd
disparity_after rd [] = rd
disparity_after rd (frame ∷ frames) = disparity_after (disparity_along rd frame) frames

abbrev pub is_first : Option ℕ → Bool
is_first None = false
is_first (Some x) = x == 0

-- Whether each frame begins a hyperframe, by the commas of all frames up to it, and the violations in it, from the disparity
-- after all frames before it.
unfoldable pub counted_from : List Bool → Rd → List (List ℕ) → List Counted
counted_from before rd [] = []
counted_from before rd (frame ∷ frames) =
    let now = before ++ has_comma frame ∷ [] in
    record { first = is_first (sync_x now); violations = violations_in rd frame } ∷ counted_from now (disparity_along rd frame) frames

abbrev pub counted : List (List ℕ) → List Counted
counted frames = counted_from [] Minus frames

-- the last k frames of a list
abbrev pub last : {A : Type 0} → ℕ → List A → List A
last k frames = drop (length frames - k) frames

-- the octets of a frame's control word
unfoldable pub control_word : ℕ → List ℕ → List ℕ
control_word width frame = map octet_of (take width frame)

-- the control words of the last k frames
unfoldable pub control_words : ℕ → ℕ → List (List ℕ) → List ℕ
control_words width k frames = flat_map (control_word width) (last k frames)

-- the violations of the last k frames
unfoldable pub violations_of_last : ℕ → List (List ℕ) → ℕ
violations_of_last k frames = violations_of (last k (counted frames))

-- the state at the last frame, and before any
abbrev pub state_at : List (List ℕ) → SyncState
state_at frames = sync_state (commas frames)

abbrev pub place_at : List (List ℕ) → Option ℕ
place_at frames = sync_x (commas frames)

-- whether the signal is lost after these frames
abbrev pub is_lost_at : List (List ℕ) → Bool
is_lost_at frames = is_lost (counted frames)

abbrev pub ends_in : SyncState → Option ℕ → Bool
ends_in Held (Some x) = x == 255
ends_in _ _ = false

-- whether the last frame is that of X = 255 of a hyperframe in a lock that is held
abbrev pub ends_hyperframe : List (List ℕ) → Bool
ends_hyperframe frames = ends_in (state_at frames) (place_at frames)
