-- What a reader answers to a whole list of bits, and what is written of frames and flags that follow one another.
use Rattle.std.specs.Prelude.{◌≡◌, ℕ, zero, suc, ◌+◌, ◌-◌, nat_lt, Bool, List, [], ◌∷◌, ◌++◌, length, filter, flat_map, All, Option, Some, None, option_to_list}
use Rattle.hdlc_channel.specs.SlowText.{flag, slow_at, frame_at}
use Rattle.hdlc_channel.specs.SlowStream.{Channel, new_channel, frame_bits, slow_stream, after_eight, IsFrame}
use Rattle.hdlc_channel.specs.declared.slow_event.SlowEvent.{SlowEvent}
use Rattle.hdlc_channel.specs.declared.slow_event.SlowEvent.TheVariants.{Frame}

-- an answer at a place, with the octets of a frame where it is one
pub record Answer : Type 0 where
  pub at : ℕ
  pub event : SlowEvent
  pub frame : List ℕ

abbrev pub answer_to : ℕ → List ℕ → Option SlowEvent → List Answer
answer_to p frame None = []
answer_to p frame (Some Frame) = record { at = p; event = Frame; frame = frame } ∷ []
answer_to p frame (Some event) = record { at = p; event = event; frame = [] } ∷ []

-- what is answered to the first n bits
unfoldable pub slow_answers : List Bool → ℕ → List Answer
slow_answers bits zero = []
slow_answers bits (suc p) = slow_answers bits p ++ answer_to p (frame_at bits p) (slow_at bits p)

-- an item that is written: a frame with its flag, or one flag
abbrev pub item_bits : Option (List ℕ) → List Bool
item_bits None = flag
item_bits (Some frame) = frame_bits frame

abbrev pub IsItem : Option (List ℕ) → Type 0
IsItem None = Unit {0}
IsItem (Some frame) = IsFrame frame

-- a flag, and items after it
abbrev pub written_bits : List (Option (List ℕ)) → List Bool
written_bits items = flag ++ flat_map item_bits items

-- The frames of items, the first of which begins at place p: each is answered at the last bit of the flag that closes it.
unfoldable pub frame_answers : ℕ → List (Option (List ℕ)) → List Answer
frame_answers p [] = []
frame_answers p (None ∷ items) = frame_answers (p + 8) items
frame_answers p (Some frame ∷ items) =
    record { at = p + length (frame_bits frame) - 1; event = Frame; frame = frame } ∷ frame_answers (p + length (frame_bits frame)) items

-- A writer from its beginning had these frames queued, in this order and whenever its calls came, and gave these bits. This
-- channel is left.
pub data Wrote : List (List ℕ) → List Bool → Channel → Type 0 where
  begins : Wrote [] [] new_channel
  queues : (queued : List (List ℕ)) (bits : List Bool) (c : Channel) (frame : List ℕ) → IsFrame frame → Wrote queued bits c
      → Wrote (queued ++ frame ∷ []) bits (record c { queue = c.queue ++ frame ∷ [] })
  gives : (queued : List (List ℕ)) (bits : List Bool) (c : Channel) → Wrote queued bits c → Wrote queued (bits ++ slow_stream c 8) (after_eight c)

-- The bits are the first ones of a flag and items, whose frames are the first ones that were queued.
pub record IsOfItems (queued : List (List ℕ)) (bits : List Bool) (c : Channel) : Type 0 where
  pub items : List (Option (List ℕ))
  pub each : All IsItem items
  pub begun : flat_map option_to_list items ++ c.queue ≡ queued
  pub whole : bits ++ c.rest ≡ written_bits items

-- Each of these frames whose closing flag ends in the bits is answered as a frame, and nothing else is answered.
pub record AreRead (queued : List (List ℕ)) (bits : List Bool) (c : Channel) : Type 0 where
  pub of_items : IsOfItems queued bits c
  pub answers : slow_answers bits (length bits) ≡ filter (λ a. nat_lt a.at (length bits)) (frame_answers 8 of_items.items)
