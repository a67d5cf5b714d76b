-- The feed of a start-up: a list of events at two ends, and the text that says how each event leaves its end. Its form is
-- this project's own.
use Rattle.std.specs.Prelude.{codes, decimal, bytes_eq, true, ℕ, ◌+◌, ◌||◌, nat_le, List, [], ◌∷◌, ◌++◌, Option, Some, None, Result, Ok, Err, if◌then◌else◌}
use Rattle.link_text.specs.Decimals.{decimal_value}
use Rattle.startup_machine.specs.declared.offer.Offer.{Offer}
use Rattle.startup_machine.specs.declared.state.State.{State}
use Rattle.startup_machine.specs.declared.state.State.TheVariants as state
use Rattle.startup_machine.specs.declared.event.Event.{Event}
use Rattle.startup_machine.specs.declared.event.Event.TheVariants.{Start, Tell, Hear, Lose, Again, Agree, Silence, Reset}
use Rattle.startup_machine.specs.Range.{is_in_range}
use Rattle.startup_machine.specs.World.{EndName, One, Two, begun, side_of, happens, is_refused}
use Rattle.link_run_feed.specs.declared.reason.Reason.{Reason}
use Rattle.link_run_feed.specs.declared.reason.Reason.TheVariants.{Word, Number, Many}
use Rattle.link_run_startup.specs.declared.events.Events.{Events}
use Rattle.link_run_feed.specs.Feed.{LineForm, FeedForm}
use Rattle.link_text.specs.Fields.{at_first_space, fields_of}

-- the caps that a rate code and a pointer give, if they are in range
abbrev pub caps_of : Option ℕ → Option ℕ → Option Offer
caps_of (Some hdlc) (Some pointer) = if is_in_range hdlc pointer then Some (record { hdlc = hdlc; pointer = pointer }) else None
caps_of (Some hdlc) None = None
caps_of None pointer = None

abbrev pub both : Option Offer → Option Offer → Option (Offer × Offer)
both (Some one) (Some two) = Some (one, two)
both (Some one) None = None
both None two = None

-- the caps of both ends: `startup H1 P1 H2 P2`
abbrev pub header_caps : List (List ℕ) → Option (Offer × Offer)
header_caps (word ∷ hdlc ∷ pointer ∷ hdlc' ∷ pointer' ∷ []) =
    if bytes_eq word (codes "startup") then both (caps_of (decimal_value hdlc) (decimal_value pointer)) (caps_of (decimal_value hdlc') (decimal_value pointer')) else None
header_caps _ = None

-- nothing happened yet, and no text is settled
abbrev pub begun_with : Option (Offer × Offer) → Option (Events × List ℕ)
begun_with None = None
begun_with (Some caps) = Some (record { world = begun caps.0 caps.1; count = 0 }, [])

-- the event of this name
abbrev pub event_named : List ℕ → Option Event
event_named word =
    if bytes_eq word (codes "start") then Some Start else
    (if bytes_eq word (codes "tell") then Some Tell else
    (if bytes_eq word (codes "hear") then Some Hear else
    (if bytes_eq word (codes "lose") then Some Lose else
    (if bytes_eq word (codes "again") then Some Again else
    (if bytes_eq word (codes "agree") then Some Agree else
    (if bytes_eq word (codes "silence") then Some Silence else
    (if bytes_eq word (codes "reset") then Some Reset else None)))))))

-- the end of this number
abbrev pub end_numbered : List ℕ → Option EndName
end_numbered text = if bytes_eq text (codes "1") then Some One else (if bytes_eq text (codes "2") then Some Two else None)

abbrev pub at_end : Event → Option EndName → Result (EndName × Event) Reason
at_end event None = Err Number
at_end event (Some end) = Ok (end, event)

abbrev pub with_event : Option Event → List ℕ → Result (EndName × Event) Reason
with_event None end = Err Word
with_event (Some event) end = at_end event (end_numbered end)

abbrev pub from_fields : Option (List ℕ × List ℕ) → Result (EndName × Event) Reason
from_fields None = Err Word
from_fields (Some fields) = with_event (event_named fields.0) fields.1

-- the event of a line, `WORD END`, or why it is none
abbrev pub event_of : List ℕ → Result (EndName × Event) Reason
event_of line = from_fields (at_first_space line)

abbrev pub letter_of : State → List ℕ
letter_of state.A = codes "A"
letter_of state.B = codes "B"
letter_of state.C = codes "C"
letter_of state.D = codes "D"
letter_of state.E = codes "E"
letter_of state.F = codes "F"
letter_of state.G = codes "G"

abbrev pub number_of : EndName → ℕ
number_of One = 1
number_of Two = 2

-- how the end of this number is left: the number, its state and its offer
unfoldable pub end_line : ℕ → State → Offer → List ℕ
end_line number state offer =
    decimal number ++ codes " " ++ letter_of state ++ codes " " ++ decimal offer.hdlc ++ codes " " ++ decimal offer.pointer ++ 10 ∷ []

-- the line of the end at which an event was
abbrev pub line_after : EndName → Events → List ℕ
line_after end s = let view = (side_of end s.world).end in end_line (number_of end) view.state view.offer

-- an event more
abbrev pub after_event : Events → EndName → Event → Events
after_event s end event = record { world = happens end event s.world; count = s.count + 1 }

-- an event happens, where there are not too many and none is refused
abbrev pub step_by : Events → Result (EndName × Event) Reason → Result (Events × List ℕ) Reason
step_by s (Err reason) = Err reason
step_by s (Ok e) =
    if nat_le 65536 s.count || is_refused e.0 e.1 s.world then Err Many else Ok (after_event s e.0 e.1, line_after e.0 (after_event s e.0 e.1))

-- each line is an event, and the last line may come at any time
abbrev pub event_lines : LineForm Events
event_lines = record { line = λ s line. step_by s (event_of line); may_end = λ s. true; ending = λ s. (s, []); closing = λ s. codes "end" ++ 10 ∷ [] }

abbrev pub events_form : FeedForm Events
events_form = record { header = λ line. begun_with (header_caps (fields_of line)); lines = event_lines }
