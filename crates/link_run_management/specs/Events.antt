-- The lines of what the readers of the management channels find in the bits that they are handed. The texts are this project's
-- own.
use Rattle.std.specs.Prelude.{codes, decimal, ◌≡◌, ℕ, ◌-◌, Bool, List, [], ◌∷◌, ◌++◌, length, Option, Some, None}
use Rattle.std.proofs.Common.{ap}
use Rattle.hex.specs.Hex.{encode_lower}
use Rattle.link_text.specs.Printed.{ended}
use Rattle.hdlc_channel.specs.declared.slow_event.SlowEvent.{SlowEvent}
use Rattle.hdlc_channel.specs.declared.slow_event.SlowEvent.TheVariants as slow
use Rattle.hdlc_channel.specs.SlowText.{slow_at, last_frame as last_slow_frame}
use Rattle.ethernet_channel.specs.declared.events.FastEvent.{FastEvent}
use Rattle.ethernet_channel.specs.declared.events.FastEvent.TheVariants as fast
use Rattle.ethernet_channel.specs.Events.{event_last, events_at, last_frame as last_fast_frame}

-- a line about this number, which is that of a frame or of a tick
abbrev pub numbered : ℕ → List ℕ → List ℕ
numbered n text = ended (decimal n ++ codes " " ++ text)

-- an event of the slow channel, with the last frame
abbrev pub slow_words : SlowEvent → List ℕ → List ℕ
slow_words slow.Frame frame = codes "slow " ++ encode_lower frame
slow_words slow.Aborted frame = codes "slow aborted"
slow_words (slow.TooShort bits) frame = codes "slow short " ++ decimal bits
slow_words (slow.Uneven bits) frame = codes "slow uneven " ++ decimal bits
slow_words (slow.BadFcs got want) frame = codes "slow fcs " ++ decimal got ++ codes " " ++ decimal want
slow_words slow.TooLong frame = codes "slow long"

abbrev pub slow_event_line : ℕ → Option SlowEvent → List ℕ → List ℕ
slow_event_line n None frame = []
slow_event_line n (Some event) frame = numbered n (slow_words event frame)

-- the line of what comes of the last of these bits
unfoldable pub slow_line : ℕ → List Bool → List ℕ
slow_line n bits = slow_event_line n (slow_at bits (length bits - 1)) (last_slow_frame bits (length bits))

pub slow_quiet : (n : ℕ) (bits : List Bool) → slow_at bits (length bits - 1) ≡ None → slow_line n bits ≡ []
unfolding slow_line
slow_quiet n bits e = ap (λ o. slow_event_line n o (last_slow_frame bits (length bits))) e

-- an event of the fast channel, with the last frame
abbrev pub fast_words : FastEvent → List ℕ → List ℕ
fast_words fast.Frame frame = codes "fast " ++ encode_lower frame
fast_words fast.BadPreamble frame = codes "fast preamble"
fast_words (fast.BadGroup code) frame = codes "fast group " ++ decimal code
fast_words (fast.NoEnd code) frame = codes "fast noend " ++ decimal code
fast_words fast.Odd frame = codes "fast odd"
fast_words fast.Empty frame = codes "fast empty"
fast_words fast.TooLong frame = codes "fast long"

abbrev pub fast_event_line : ℕ → Option FastEvent → List ℕ → List ℕ
fast_event_line n None frame = []
fast_event_line n (Some event) frame = numbered n (fast_words event frame)

-- the line of what comes of the last of these bits
unfoldable pub fast_line : ℕ → List Bool → List ℕ
fast_line n bits = fast_event_line n (event_last bits) (last_fast_frame (events_at bits))

pub fast_quiet : (n : ℕ) (bits : List Bool) → event_last bits ≡ None → fast_line n bits ≡ []
unfolding fast_line
fast_quiet n bits e = ap (λ o. fast_event_line n o (last_fast_frame (events_at bits))) e

-- the lines of what comes of bits, behind those that the reader was handed before
unfoldable pub bit_lines : (ℕ → List Bool → List ℕ) → ℕ → List Bool → List Bool → List ℕ
bit_lines line n before [] = []
bit_lines line n before (bit ∷ bits) = line n (before ++ bit ∷ []) ++ bit_lines line n (before ++ bit ∷ []) bits
