-- What is written on the slow channel (ISO/IEC 13239: frame structure, transparency, time fill between
-- frames): frames as bits, one flag between two frames, and flags where no frame is queued.
use Rattle.std.specs.Prelude.{ℕ, suc, ◌+◌, ◌-◌, ◌<◌, ◌≤◌, ◌==◌, nat_lt, if◌then◌else◌, Bool, true, false, All, List, [], ◌∷◌, ◌++◌, length, take, drop, flat_map, sum_by}
use Rattle.std.specs.List.{repeat}
use Rattle.hdlc_channel.specs.Bits.{bits_of}
use Rattle.hdlc_channel.specs.Fcs.{fcs_of, field_octets}
use Rattle.hdlc_channel.specs.SlowText.{flag}

-- the content of a frame: its octets, and then its sequence, low octet first
unfoldable pub content_of : List ℕ → List ℕ
content_of frame = frame ++ field_octets (fcs_of frame)

-- bits after so many 1s in a row, with a 0 put in after every five 1s
unfoldable pub stuffed : ℕ → List Bool → List Bool
stuffed ones [] = []
stuffed ones (false ∷ bits) = false ∷ stuffed 0 bits
stuffed ones (true ∷ bits) = if ones == 4 then true ∷ false ∷ stuffed 0 bits else true ∷ stuffed (suc ones) bits

-- a frame's stuffed content, and the flag that closes it
unfoldable pub frame_bits : List ℕ → List Bool
frame_bits frame = stuffed 0 (bits_of (content_of frame)) ++ flag

-- What is not yet written: the rest of the item whose first bit was written last, and the frames that are not yet begun, the
-- oldest first. An item is a frame with its flag, or one flag.
pub record Channel : Type 0 where
  pub rest : List Bool
  pub queue : List (List ℕ)

-- the first n bits that will be written, where no more frames are queued
unfoldable pub slow_stream : Channel → ℕ → List Bool
slow_stream c n = take n (c.rest ++ (flat_map frame_bits c.queue ++ repeat n flag))

-- at the beginning one flag is to be written
abbrev pub new_channel : Channel
new_channel = record { rest = flag; queue = [] }

-- the next item
abbrev pub next_item : List (List ℕ) → List Bool
next_item [] = flag
next_item (frame ∷ queue) = frame_bits frame

-- what is not yet written after eight bits more
unfoldable pub after_eight : Channel → Channel
after_eight c =
    if nat_lt (length c.rest) 8
    then record { rest = drop (8 - length c.rest) (next_item c.queue); queue = drop 1 c.queue }
    else record { rest = drop 8 c.rest; queue = c.queue }

-- a frame that may be queued
pub record IsFrame (frame : List ℕ) : Type 0 where
  pub some : 1 ≤ length frame
  pub few : length frame ≤ 1500
  pub octets : All (λ x. x < 256) frame

-- the room for frames that are not yet begun: a frame takes up its length and two octets more
abbrev pub room_of : List (List ℕ) → ℕ
room_of queue = 8192 - sum_by (λ frame. length frame + 2) queue
