-- The samples that leave, by tick, carrier and number: each with its value, or marked where a bit of it stands in a frame
-- that is missed. This is the project's own.
use Rattle.std.specs.Prelude.{ℕ, zero, suc, ◌-◌, ◌*◌, nat_le, nat_lt, ◌&&◌, Bool, List, [], length, map, find, Option, Some, None, slice_get, if◌then◌else◌}
use Rattle.std.specs.List.{flat_map, list_any, range_with_len}
use Rattle.carrier_plan.specs.declared.plan.Carrier.{Carrier}
use Rattle.carrier_plan.specs.declared.plan.Flow.{Flow}
use Rattle.carrier_plan.specs.declared.plan.Plan.{Plan}
use Rattle.link_base.specs.Record.{Record}
use Rattle.plan_checker.specs.Flows.{lists}
use Rattle.plan_checker.specs.Place.{BitPlace, place_of}
use Rattle.plan_checker.specs.Run.{delay_of, samples_before, samples_due, ticks_of_run}
use Rattle.roe_mappers.specs.Parts.{part_bit}
use Rattle.sample_bits.specs.SampleOfBits.{sample_of_bits}
use Rattle.sample_bits.specs.declared.iq.RawIq.{RawIq}
use Rattle.link_receiver.specs.declared.entry.Entry.{Entry}
use Rattle.link_receiver.specs.Received.{part_of_frame, is_missed}

-- IQ bit x of a frame, where its octets arrived
abbrev pub bit_if_received : Plan → Flow → ℕ → Option (List ℕ) → ℕ
bit_if_received p f x None = 0
bit_if_received p f x (Some part) = part_bit p f part x

abbrev pub bit_at_place : Plan → Flow → ℕ → List Record → BitPlace → ℕ
bit_at_place p f h records place = bit_if_received p f place.bit (part_of_frame p f h records place.frame)

-- whether a bit of sample j of the carrier stands in a frame that is missed
abbrev pub is_marked : Plan → Flow → ℕ → List Record → Carrier → ℕ → Bool
is_marked p f h records carrier j =
    list_any (λ b. is_missed p f h records (place_of carrier j b).frame) (range_with_len 0 (2 * carrier.m))

-- the sample that was received, in the flow that lists its carrier
abbrev pub value_in : Plan → Option Flow → ℕ → List Record → Carrier → ℕ → Option RawIq
value_in p None h records carrier j = None
value_in p (Some f) h records carrier j =
    if is_marked p f h records carrier j then None
    else Some (sample_of_bits carrier.m (λ b. bit_at_place p f h records (place_of carrier j b)))

unfoldable pub value_of : Plan → ℕ → List Record → ℕ → Carrier → ℕ → Option RawIq
value_of p h records c carrier j = value_in p (find (lists c) p.flows) h records carrier j

abbrev pub entry_of : Plan → ℕ → List Record → ℕ → ℕ → Carrier → ℕ → Entry
entry_of p h records t c carrier j = record { tick = t; carrier = c; number = j; value = value_of p h records c carrier j }

-- the entries of the samples of carrier c that were handed in at tick n, as they leave at tick t
abbrev pub entries_handed_in : Plan → ℕ → List Record → ℕ → ℕ → Carrier → ℕ → List Entry
entries_handed_in p h records t c carrier n =
    map (entry_of p h records t c carrier) (range_with_len (samples_before p c n) (samples_due p c n))

-- the entries of carrier c at tick t: its samples that were handed in at a tick of the run, its delay before
abbrev pub entries_by : Plan → ℕ → List Record → ℕ → ℕ → Option Carrier → List Entry
entries_by p h records t c None = []
entries_by p h records t c (Some carrier) =
    if nat_le (delay_of p c) t && nat_lt (t - delay_of p c) h
    then entries_handed_in p h records t c carrier (t - delay_of p c) else []

unfoldable pub entries_of : Plan → ℕ → List Record → ℕ → ℕ → List Entry
entries_of p h records t c = entries_by p h records t c (slice_get p.carriers c)

-- the entries of tick t, by carrier
unfoldable pub entries_at : Plan → ℕ → List Record → ℕ → List Entry
entries_at p h records t = flat_map (entries_of p h records t) (range_with_len 0 (length p.carriers))

-- the entries of all ticks below t
abbrev pub entries_below : Plan → ℕ → List Record → ℕ → List Entry
entries_below p h records t = flat_map (entries_at p h records) (range_with_len 0 t)

-- all entries of a run of h ticks
abbrev pub all_entries : Plan → ℕ → List Record → List Entry
all_entries p h records = entries_below p h records (ticks_of_run p h)

-- the entries of the tick before t, if there is one
abbrev pub entries_before : Plan → ℕ → List Record → ℕ → List Entry
entries_before p h records zero = []
entries_before p h records (suc t) = entries_at p h records t
