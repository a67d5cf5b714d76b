-- What stands in a written stream, for each bit of it. The rules are those of the reader.
use Rattle.std.specs.Prelude.{ℕ, ◌-◌, Bool, List, ◌∷◌, ◌++◌, length, replicate, flat_map, Option, Some, None}
use Rattle.ethernet_channel.specs.declared.events.FastEvent.TheVariants as event
use Rattle.ethernet_channel.specs.Codes.{idle}
use Rattle.ethernet_channel.specs.Events.{Found}
use Rattle.ethernet_channel.specs.FastStream.{Channel, frame_bits, IsFrame}

-- a frame as it is found
abbrev pub whole_frame : List ℕ → Found
whole_frame frame = record { event = event.Frame; octets = frame }

-- a frame is found at the last bit of its R, before the five bits of the I after it
abbrev pub found_in_frame : List ℕ → List (Option Found)
found_in_frame frame = replicate (length (frame_bits frame) - 6) None ++ Some (whole_frame frame) ∷ replicate 5 None

-- an item: a frame with one I after it, or one I
abbrev pub item_bits : Option (List ℕ) → List Bool
item_bits None = idle
item_bits (Some frame) = frame_bits frame

abbrev pub found_in_item : Option (List ℕ) → List (Option Found)
found_in_item None = replicate 5 None
found_in_item (Some frame) = found_in_frame frame

-- a frame in it may be queued
abbrev pub IsItem : Option (List ℕ) → Type 0
IsItem None = Unit {0}
IsItem (Some frame) = IsFrame frame

-- a stream of items
abbrev pub written : List (Option (List ℕ)) → List Bool
written items = flat_map item_bits items

abbrev pub found_in : List (Option (List ℕ)) → List (Option Found)
found_in items = flat_map found_in_item items

-- a channel at its beginning, with frames queued
abbrev pub queued : List (List ℕ) → Channel
queued frames = record { rest = idle; queue = frames }
