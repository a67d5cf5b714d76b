-- What a list of received basic frames hands to the readers of the two management channels. A reader begins anew before the
-- first announcement, after a hyperframe that announces nothing, after a change of the HDLC code or the pointer, and where a
-- lock that was held is lost. This is the project's own.
use Rattle.std.specs.Prelude.{ℕ, zero, suc, ◌==◌, ◌&&◌, Bool, false, if◌then◌else◌, List, [], ◌∷◌, ◌++◌, length, take, flat_map, Option, Some, None, Result, Ok, Err}
use Rattle.std.specs.List.{range_with_len}
use Rattle.hyperframe.specs.declared.synchronization.SyncState.{SyncState}
use Rattle.hyperframe.specs.declared.synchronization.SyncState.TheVariants.{Lost}
use Rattle.control_words.specs.declared.announce.Announce.{Announce}
use Rattle.control_words.specs.declared.announce.BadControl.{BadControl}
use Rattle.control_words.specs.Places.{is_slow_place, is_fast_place}
use Rattle.control_words.specs.Reading.{control_octet}
use Rattle.hdlc_channel.specs.Bits.{bits_of}
use Rattle.link_run_inspect.specs.declared.changes.Hyperframe.{Hyperframe}
use Rattle.link_run_inspect.specs.Frames.{control_words, state_at}
use Rattle.link_run_inspect.specs.Changes.{hyperframe_at}

-- the octets at these places of a control word
abbrev pub octets_in_word : (ℕ → ℕ → Bool) → ℕ → List ℕ → ℕ → List ℕ
octets_in_word is_place width control x =
    flat_map (λ y. if is_place x y then control_octet width control x y ∷ [] else []) (range_with_len 0 width)

-- the octets at these places of a hyperframe, by ascending word and octet
abbrev pub octets_at : (ℕ → ℕ → Bool) → ℕ → List ℕ → List ℕ
octets_at is_place width control = flat_map (octets_in_word is_place width control) (range_with_len 0 256)

unfoldable pub slow_octets : ℕ → Announce → List ℕ → List ℕ
slow_octets width a control = octets_at (is_slow_place a.hdlc) width control

unfoldable pub fast_octets : ℕ → Announce → List ℕ → List ℕ
fast_octets width a control = octets_at (λ x y. is_fast_place a.pointer x) width control

-- the last announcement since the readers began anew, and the bits that each was handed since
pub record Managed : Type 0 where
  pub announced : Option Announce
  pub slow : List Bool
  pub fast : List Bool

-- the readers begin anew
abbrev pub begun : Managed
begun = record { announced = None; slow = []; fast = [] }

-- an announcement has the same channels as the one before it
abbrev pub has_same_channels : Option Announce → Announce → Bool
has_same_channels None a = false
has_same_channels (Some before) a = before.hdlc == a.hdlc && before.pointer == a.pointer

-- what is kept at an announcement
unfoldable pub kept_at : Managed → Announce → Managed
kept_at m a = if has_same_channels m.announced a then m else begun

-- the octets of a hyperframe with this announcement are handed in
unfoldable pub handed_in : ℕ → List ℕ → Announce → Managed → Managed
handed_in width control a m = record {
  announced = Some a;
  slow = m.slow ++ bits_of (slow_octets width a control);
  fast = m.fast ++ bits_of (fast_octets width a control);
}

abbrev pub after_answer : ℕ → List ℕ → Result Announce BadControl → Managed → Managed
after_answer width control (Ok a) m = handed_in width control a (kept_at m a)
after_answer width control (Err bad) m = begun

abbrev pub after_state : SyncState → Managed → Managed
after_state Lost m = begun
after_state _ m = m

abbrev pub after_hyperframe : ℕ → List ℕ → SyncState → Option Hyperframe → Managed → Managed
after_hyperframe width control state (Some h) m = after_answer width control h.answer m
after_hyperframe width control state None m = after_state state m

-- after the last frame of a list, by what it was before
unfoldable pub after_frame : ℕ → List (List ℕ) → Managed → Managed
after_frame width frames m = after_hyperframe width (control_words width 256 frames) (state_at frames) (hyperframe_at width frames) m

-- after the first n of a list of frames
unfoldable pub managed_after : ℕ → List (List ℕ) → ℕ → Managed
managed_after width frames zero = begun
managed_after width frames (suc n) = after_frame width (take (suc n) frames) (managed_after width frames n)

unfoldable pub managed : ℕ → List (List ℕ) → Managed
managed width frames = managed_after width frames (length frames)
