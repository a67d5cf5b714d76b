-- What a reader of the fast channel finds in a whole list of bits: for each bit the event that stands at it, if one
-- does. The delimiters are those of IEEE 802.3 clause 24.2.2.1. Which faults are told, and when, is this project's own.
use Rattle.std.specs.Prelude.{ℕ, zero, suc, ◌+◌, ◌-◌, ◌*◌, ◌%◌, ◌==◌, Bool, true, false, if◌then◌else◌, List, [], ◌∷◌, ◌++◌, map, length, take, drop, get_or, Option, Some, None, is_some}
use Rattle.std.specs.List.{list_any, prefix_len}
use Rattle.std.specs.Option.{unwrap_or, option_to_list}
use Rattle.ethernet_channel.specs.declared.events.FastEvent.{FastEvent}
use Rattle.ethernet_channel.specs.declared.events.FastEvent.TheVariants as event
use Rattle.ethernet_channel.specs.Codes.{nibble_of, five, delimiter, terminate, reset, start, groups}

-- an event, and the octets of the frame where it is one
pub record Found : Type 0 where
  pub event : FastEvent
  pub octets : List ℕ

abbrev pub fault : FastEvent → Found
fault event = record { event = event; octets = [] }

-- the octets whose nibbles these are, the low one of each first
abbrev pub octets_of : List ℕ → List ℕ
octets_of (low ∷ high ∷ nibbles) = (low + 16 * high) ∷ octets_of nibbles
octets_of _ = []

-- the nibbles of groups that are all codes of nibbles
abbrev pub nibbles_of : List ℕ → List ℕ
nibbles_of gs = map (λ g. unwrap_or (nibble_of g) 0) gs

-- ---- the rules for one group

-- before the first D, after so many groups that are all 5: at most thirteen are
abbrev pub preamble_rule : ℕ → ℕ → Option Found
preamble_rule fives g =
    if g == five
    then (if fives == 13 then Some (fault event.BadPreamble) else None)
    else (if g == delimiter then None else Some (fault event.BadPreamble))

-- after D and so many nibbles: a frame has at most 1,522 octets, which are 3,044 nibbles
abbrev pub data_rule : ℕ → ℕ → Option Found
data_rule nibbles g =
    if is_some (nibble_of g)
    then (if nibbles == 3044 then Some (fault event.TooLong) else None)
    else (if g == terminate then None else Some (fault (event.BadGroup g)))

-- at the R of a frame of these nibbles
abbrev pub ended : List ℕ → Found
ended nibbles =
    if length nibbles == 0
    then fault event.Empty
    else (if length nibbles % 2 == 1 then fault event.Odd else record { event = event.Frame; octets = octets_of nibbles })

-- after T
abbrev pub end_rule : List ℕ → ℕ → Option Found
end_rule nibbles g = if g == reset then Some (ended nibbles) else Some (fault (event.NoEnd g))

-- after D and these groups, of which only the last may be T
abbrev pub frame_rule : List ℕ → ℕ → Option Found
frame_rule gs g =
    if list_any (λ k. k == terminate) gs
    then end_rule (nibbles_of (take (length gs - 1) gs)) g
    else data_rule (length gs) g

-- after J K and these groups, at none of which there was an event
unfoldable pub rule : List ℕ → ℕ → Option Found
rule gs g =
    let fives = prefix_len (λ k. k == five) gs in
    if fives == length gs then preamble_rule fives g else frame_rule (drop (suc fives) gs) g

-- ---- the first event

-- an event, and the number of groups up to the one at which it stands
pub record Answer : Type 0 where
  pub groups : ℕ
  pub found : Found

abbrev pub answer_or : Option Found → ℕ → Option Answer → Option Answer
answer_or (Some found) n later = Some (record { groups = n; found = found })
answer_or None n later = later

-- the first event of the groups that follow after J K, of which the first ones have none
abbrev pub first_answer : List ℕ → List ℕ → Option Answer
first_answer before [] = None
first_answer before (g ∷ gs) = answer_or (rule before g) (suc (length before)) (first_answer (before ++ g ∷ []) gs)

-- whether a list begins with another
abbrev pub begins_with : List Bool → List Bool → Bool
begins_with [] bits = true
begins_with (b ∷ front) [] = false
begins_with (true ∷ front) (bit ∷ bits) = if bit then begins_with front bits else false
begins_with (false ∷ front) (bit ∷ bits) = if bit then false else begins_with front bits

-- the bits after the first ten in a row that are J K
abbrev pub after_start : List Bool → Option (List Bool)
after_start [] = None
after_start (bit ∷ bits) = if begins_with start (bit ∷ bits) then Some (drop 10 (bit ∷ bits)) else after_start bits

-- ---- all events

-- what was found at each bit, and the bits after the last event
pub record Reading : Type 0 where
  pub at_bits : List (Option Found)
  pub since : List Bool

abbrev pub at_none : List Bool → List (Option Found)
at_none bits = map (λ _. None) bits

-- no event
abbrev pub quiet : List Bool → Reading
quiet bits = record { at_bits = at_none bits; since = bits }

-- an event at the last of these bits, and what is found after it
abbrev pub at_last : List Bool → Found → Reading → Reading
at_last bits found later = record { at_bits = at_none (take (length bits - 1) bits) ++ Some found ∷ later.at_bits; since = later.since }

-- by the first event of the bits of which these are left after J K
abbrev pub read_frame : (List Bool → Reading) → List Bool → List Bool → Option Answer → Reading
read_frame later bits rest None = quiet bits
read_frame later bits rest (Some answer) =
    let end = length bits - length rest + 5 * answer.groups in at_last (take end bits) answer.found (later (drop end bits))

abbrev pub read_from : (List Bool → Reading) → List Bool → Option (List Bool) → Reading
read_from later bits None = quiet bits
read_from later bits (Some rest) = read_frame later bits rest (first_answer [] (groups rest))

-- at most so many events are looked for
unfoldable pub read_within : ℕ → List Bool → Reading
read_within zero bits = quiet bits
read_within (suc most) bits = read_from (read_within most) bits (after_start bits)

-- a list has no more events than bits
unfoldable pub read : List Bool → Reading
read bits = read_within (length bits) bits

-- for each bit, what is found at it
abbrev pub events_at : List Bool → List (Option Found)
events_at bits = (read bits).at_bits

-- what is found at the last bit of a list
abbrev pub found_last : List Bool → Option Found
found_last bits = get_or (events_at bits) (length bits - 1) None

abbrev pub event_of : Option Found → Option FastEvent
event_of None = None
event_of (Some found) = Some found.event

abbrev pub event_last : List Bool → Option FastEvent
event_last bits = event_of (found_last bits)

abbrev pub is_frame : FastEvent → Bool
is_frame event.Frame = true
is_frame event.BadPreamble = false
is_frame (event.BadGroup code) = false
is_frame (event.NoEnd code) = false
is_frame event.Odd = false
is_frame event.Empty = false
is_frame event.TooLong = false

-- the events among what was found, in order
abbrev pub events_in : List (Option Found) → List FastEvent
events_in [] = []
events_in (found ∷ more) = option_to_list (event_of found) ++ events_in more

-- what is found at more bits after these
abbrev pub found_after : List Bool → List Bool → List (Option Found)
found_after bits more = drop (length bits) (events_at (bits ++ more))

-- the frames among what was found, in order
abbrev pub frames_in : List (Option Found) → List (List ℕ)
frames_in [] = []
frames_in (None ∷ more) = frames_in more
frames_in (Some found ∷ more) = if is_frame found.event then found.octets ∷ frames_in more else frames_in more

-- the last of them, or no octet where there is none
abbrev pub last_frame : List (Option Found) → List ℕ
last_frame found = let frames = frames_in found in get_or frames (length frames - 1) []
