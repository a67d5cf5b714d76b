-- What a reader of the slow channel keeps of the bits that it was handed. This is the project's own.
use Rattle.std.specs.Prelude.{◌≡◌, ℕ, zero, suc, ◌+◌, ◌-◌, ◌≤◌, min, nat_lt, ◌==◌, ◌&&◌, Bool, true, false, if◌then◌else◌, List, [], ◌∷◌, ◌++◌, length, take, get_or, Option, Some, None}
use Rattle.std.specs.Option.{is_some}
use Rattle.hdlc_channel.specs.Bits.{octets_of}
use Rattle.hdlc_channel.specs.Content.{IsBuffer}
use Rattle.hdlc_channel.specs.Fcs.{body_of}
use Rattle.hdlc_channel.specs.SlowText.{bit, opened, unstuffed, content_answer, is_frame, last_frame, too_long}
use Rattle.hdlc_channel.specs.declared.slow_event.SlowEvent.{SlowEvent}
use Rattle.hdlc_channel.specs.declared.slow_event.SlowEvent.TheVariants.{Aborted, TooLong}

pub record SlowView : Type 0 where
  -- the 1s that came last in a row, at most seven
  pub ones : ℕ
  -- whether a frame is open
  pub in_frame : Bool
  -- what was collected of it
  pub collected : List Bool
  -- the octets of the last frame
  pub frame : List ℕ

-- the 1s in a row at the end of the first n bits, and seven more where no 0 has come
unfoldable pub ones_at : List Bool → ℕ → ℕ
ones_at bits zero = 7
ones_at bits (suc n) = if bit bits n then suc (ones_at bits n) else 0

-- The reader was handed the first n of these bits since its beginning.
pub record StandsAt (v : SlowView) (bits : List Bool) (n : ℕ) : Type 0 where
  pub ones : v.ones ≡ min 7 (ones_at bits n)
  pub in_frame : v.in_frame ≡ is_some (opened bits n)
  pub collected : (from : ℕ) → opened bits n ≡ Some from → v.collected ≡ unstuffed bits from n
  pub frame : v.frame ≡ last_frame bits n

-- The reader was handed these bits since its beginning.
abbrev pub StandsFor : SlowView → List Bool → Type 0
StandsFor v bits = StandsAt v bits (length bits)

-- the reader at its beginning
abbrev pub begun : SlowView
begun = record { ones = 7; in_frame = false; collected = []; frame = [] }

-- without a 0 at the end
unfoldable pub without_zero : List Bool → List Bool
without_zero bits = if get_or bits (length bits - 1) true then bits else take (length bits - 1) bits

-- what was collected before the 0 and the six 1s of a flag, of which the 0 may have been dropped as stuffing
unfoldable pub before_flag : List Bool → List Bool
before_flag collected = without_zero (take (length collected - 6) collected)

-- the next bit is collected, where a frame is open
unfoldable pub collecting : SlowView → Bool → SlowView × Option SlowEvent
collecting v b =
    if v.in_frame
    then (if length v.collected + 1 == too_long
    then (record v { in_frame = false }, Some TooLong)
    else (record v { collected = v.collected ++ b ∷ [] }, None))
    else (v, None)

-- the frame that is kept after a content with this answer
abbrev pub kept_frame : Option SlowEvent → List Bool → List ℕ → List ℕ
kept_frame answer content frame = if is_frame answer then body_of (octets_of content) else frame

-- what a flag closes, and nothing where no frame is open
abbrev pub closed_content : SlowView → List Bool
closed_content v = if v.in_frame then before_flag v.collected else []

-- a flag ends
unfoldable pub flagged : SlowView → SlowView × Option SlowEvent
flagged v =
    let content = closed_content v in
    let answer = content_answer content in
    (record { ones = 0; in_frame = true; collected = []; frame = kept_frame answer content v.frame }, answer)

-- the seventh 1 in a row
unfoldable pub aborting : SlowView → SlowView × Option SlowEvent
aborting v = (record v { ones = 7; in_frame = false }, if v.in_frame && nat_lt 6 (length v.collected) then Some Aborted else None)

-- what a reader that keeps v does with the next bit
unfoldable pub step : SlowView → Bool → SlowView × Option SlowEvent
step v true =
    if v.ones == 6 then aborting v
    else collecting (record v { ones = min 7 (v.ones + 1) }) true
step v false =
    if v.ones == 5 then (record v { ones = 0 }, None)
    else if v.ones == 6 then flagged v
    else collecting (record v { ones = 0 }) false

-- what the fields of a reader show
abbrev pub reader_view : ℕ → Bool → List Bool → List ℕ → ℕ → SlowView
reader_view ones in_frame collected frame frame_len = record { ones = ones; in_frame = in_frame; collected = collected; frame = take frame_len frame }

-- what holds of them
pub record IsReader (ones : ℕ) (collected : List Bool) (frame : List ℕ) (frame_len : ℕ) : Type 0 where
  pub few : ones ≤ 7
  pub collected_few : length collected ≤ 12023
  pub room : IsBuffer frame
  pub within : frame_len ≤ 1502
