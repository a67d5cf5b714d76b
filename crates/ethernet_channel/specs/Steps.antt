-- What one more group or bit makes of what a reader keeps. No contract of a public call names it.
use Rattle.std.specs.Prelude.{◌≡◌, ℕ, ◌+◌, ◌*◌, ◌%◌, ◌^◌, ◌<◌, ◌==◌, Bool, if◌then◌else◌, List, [], ◌∷◌, ◌++◌, length, Option, Some, None}
use Rattle.std.specs.Option.{option_to_list}
use Rattle.ethernet_channel.specs.declared.events.FastEvent.{FastEvent}
use Rattle.ethernet_channel.specs.declared.events.FastEvent.TheVariants as event
use Rattle.ethernet_channel.specs.declared.reader.Step.{Step}
use Rattle.ethernet_channel.specs.declared.reader.Step.TheVariants.{Hunting, Preamble, Data, End}
use Rattle.ethernet_channel.specs.Codes.{number, nibble_of, five, delimiter, terminate, reset, start}
use Rattle.ethernet_channel.specs.Keeps.{Kept}

-- what is answered, and what is kept then
pub record Taken : Type 0 where
  pub event : Option FastEvent
  pub kept : Kept

abbrev pub goes_on : Kept → Taken
goes_on k = record { event = None; kept = k }

-- after an event the reader hunts, and no earlier bit counts
abbrev pub stops : FastEvent → Kept → Taken
stops event k = record { event = Some event; kept = record k { step = Hunting; recent = 0; bits = 0 } }

abbrev pub takes_preamble : Kept → ℕ → Taken
takes_preamble k g =
    if g == five
    then (if k.fives == 13 then stops event.BadPreamble k else goes_on (record k { fives = k.fives + 1 }))
    else (if g == delimiter then goes_on (record k { step = Data; nibbles = [] }) else stops event.BadPreamble k)

abbrev pub takes_nibble : Kept → ℕ → Option ℕ → Taken
takes_nibble k g None = if g == terminate then goes_on (record k { step = End }) else stops (event.BadGroup g) k
takes_nibble k g (Some nibble) =
    if length k.nibbles == 3044 then stops event.TooLong k else goes_on (record k { nibbles = k.nibbles ++ nibble ∷ [] })

abbrev pub takes_reset : Kept → Taken
takes_reset k =
    if length k.nibbles == 0
    then stops event.Empty k
    else (if length k.nibbles % 2 == 1 then stops event.Odd k else stops event.Frame (record k { nibbles = k.frame; frame = k.nibbles }))

abbrev pub takes_end : Kept → ℕ → Taken
takes_end k g = if g == reset then takes_reset k else stops (event.NoEnd g) k

abbrev pub takes_group : Step → Kept → ℕ → Taken
takes_group Hunting k g = goes_on k
takes_group Preamble k g = takes_preamble k g
takes_group Data k g = takes_nibble k g (nibble_of g)
takes_group End k g = takes_end k g

-- with one more bit among the last ten
abbrev pub with_bit : Kept → Bool → Kept
with_bit k bit = record k { recent = (2 * k.recent + (if bit then 1 else 0)) % 1024 }

-- with more bits among the last ten, of which the count and the number are known
abbrev pub with_bits : Kept → ℕ → ℕ → Kept
with_bits k count part = record k { recent = (k.recent * 2 ^ count + part) % 1024 }

abbrev pub hunts : Kept → Taken
hunts k = goes_on (if k.recent == number start then record k { step = Preamble; bits = 0; fives = 0 } else k)

abbrev pub takes_part : Step → Kept → Taken
takes_part step k = if k.bits == 4 then takes_group step (record k { bits = 0 }) (k.recent % 32) else goes_on (record k { bits = k.bits + 1 })

abbrev pub takes_in : Step → Kept → Taken
takes_in Hunting k = hunts k
takes_in Preamble k = takes_part Preamble k
takes_in Data k = takes_part Data k
takes_in End k = takes_part End k

unfoldable pub takes : Kept → Bool → Taken
takes k bit = takes_in k.step (with_bit k bit)

-- ---- bits one after another

abbrev pub run : Kept → List Bool → Kept
run k [] = k
run k (bit ∷ bits) = run (takes k bit).kept bits

abbrev pub run_events : Kept → List Bool → List FastEvent
run_events k [] = []
run_events k (bit ∷ bits) = option_to_list (takes k bit).event ++ run_events (takes k bit).kept bits

-- a reader after an event, and a few bits
pub record IsPastEvent (k : Kept) (limit : ℕ) : Type 0 where
  pub hunts : k.step ≡ Hunting
  pub few : k.recent < limit

-- where there was an event, the bits after it are too few for another
abbrev pub IsQuietAfter : Option FastEvent → Kept → ℕ → Type 0
IsQuietAfter None k limit = Unit {0}
IsQuietAfter (Some event) k limit = IsPastEvent k limit

-- Bits of which the count and the number are known were taken, with this event among them.
pub record Ran (old new : Kept) (event : Option FastEvent) (count part : ℕ) : Type 0 where
  pub kept : (bits : List Bool) → length bits ≡ count → number bits ≡ part → new ≡ run old bits
  pub events : (bits : List Bool) → length bits ≡ count → number bits ≡ part → run_events old bits ≡ option_to_list event

-- the reader is within a frame
abbrev pub IsInFrame : Kept → Type 0
IsInFrame k = k.step ≡ Hunting → ⊥

-- after groups or parts of them: an event, or a frame that goes on with so many bits of a group
abbrev pub IsAfterBits : Option FastEvent → Kept → ℕ → Type 0
IsAfterBits None k bits = IsInFrame k × (k.bits ≡ bits)
IsAfterBits (Some event) k bits = IsPastEvent k 1
