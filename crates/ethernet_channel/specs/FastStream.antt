-- What is written on the fast channel (IEEE 802.3 clauses 24.2.2.1 to 24.2.2.4): frames as groups of five bits, with at
-- least one I between two of them, and I where no frame is queued.
use Rattle.std.specs.Prelude.{ℕ, zero, suc, ◌+◌, ◌-◌, ◌/◌, ◌%◌, ◌<◌, ◌≤◌, Bool, true, List, [], ◌∷◌, ◌++◌, length, take, drop, get_or, replicate, codes, flat_map, sum_by, All}
use Rattle.ethernet_channel.specs.Codes.{nibble_texts, text_bits, start, idle}

-- the five bits of a nibble
unfoldable pub nibble_bits : ℕ → List Bool
nibble_bits nibble = text_bits (get_or nibble_texts nibble [])

-- the ten bits of an octet, its low nibble first
unfoldable pub coded : ℕ → List Bool
coded octet = nibble_bits (octet % 16) ++ nibble_bits (octet / 16)

-- the nibbles before the first octet of a frame: J K stand for the first two of the sixteen of its preamble
abbrev pub preamble : List ℕ
preamble = replicate 13 5 ++ 13 ∷ []

-- T and R
unfoldable pub ending : List Bool
ending = text_bits (codes "01101") ++ text_bits (codes "00111")

-- the groups of a frame, with one I after it
unfoldable pub frame_bits : List ℕ → List Bool
frame_bits frame = start ++ flat_map nibble_bits preamble ++ flat_map coded frame ++ ending ++ idle

-- What is not yet written: the rest of the item whose first bit was written last, and the frames that are not yet begun,
-- the oldest first. An item is a frame with one I after it, or one I.
pub record Channel : Type 0 where
  pub rest : List Bool
  pub queue : List (List ℕ)

-- at the beginning one I is to be written
abbrev pub new_channel : Channel
new_channel = record { rest = idle; queue = [] }

-- The first n bits that will be written, where no more frames are queued: after the frames come I for ever, which are 1s.
unfoldable pub fast_stream : Channel → ℕ → List Bool
fast_stream c n = take n (c.rest ++ (flat_map frame_bits c.queue ++ replicate n true))

-- what is not yet written after one bit more, with which the next item is begun where no other is
abbrev pub after_bit : List Bool → List (List ℕ) → Channel
after_bit (bit ∷ rest) queue = record { rest = rest; queue = queue }
after_bit [] [] = record { rest = drop 1 idle; queue = [] }
after_bit [] (frame ∷ queue) = record { rest = drop 1 (frame_bits frame); queue = queue }

-- what is not yet written after n bits more
unfoldable pub after_bits : ℕ → Channel → Channel
after_bits zero c = c
after_bits (suc n) c = after_bits n (after_bit c.rest c.queue)

-- a frame that may be queued
pub record IsFrame (frame : List ℕ) : Type 0 where
  pub some : 1 ≤ length frame
  pub few : length frame ≤ 1522
  pub octets : All (λ x. x < 256) frame

-- the room for frames that are not yet begun: a frame takes up its length and two octets more
abbrev pub room_of : List (List ℕ) → ℕ
room_of queue = 8192 - sum_by (λ frame. length frame + 2) queue
