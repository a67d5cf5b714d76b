-- The packets of a drill as they arrive: by tick, then by number. This is the project's own.
use Rattle.std.specs.Prelude.{ℕ, ◌==◌, Bool, List, [], ◌∷◌, length, slice_index_or, if◌then◌else◌}
use Rattle.std.specs.List.{flat_map, range_with_len}
use Rattle.link_base.specs.Record.{Record}
use Rattle.link_drill.specs.declared.fates.Fate.{Fate}
use Rattle.link_drill.specs.declared.fates.Fate.TheVariants.{Lost, Arrives}

-- the records of a packet that are of tick t: none, one or two
abbrev pub record_or_two : ℕ → List ℕ → Bool → List Record
record_or_two t octets twice =
    if twice then record { tick = t; octets = octets } ∷ record { tick = t; octets = octets } ∷ [] else record { tick = t; octets = octets } ∷ []

abbrev pub arrivals_by : ℕ → List ℕ → Fate → List Record
arrivals_by t octets Lost = []
arrivals_by t octets (Arrives tick twice) = if tick == t then record_or_two t octets twice else []

-- those of packet i
abbrev pub arrivals_of_packet : List (List ℕ) → List Fate → ℕ → ℕ → List Record
arrivals_of_packet packets fates t i = arrivals_by t (slice_index_or packets i []) (slice_index_or fates i Lost)

-- those of the first packets
unfoldable pub arrivals_of_first : List (List ℕ) → List Fate → ℕ → ℕ → List Record
arrivals_of_first packets fates t count = flat_map (arrivals_of_packet packets fates t) (range_with_len 0 count)

-- the records of tick t
abbrev pub arrivals_at : List (List ℕ) → List Fate → ℕ → List Record
arrivals_at packets fates t = arrivals_of_first packets fates t (length packets)

-- the records of the ticks below t
unfoldable pub arrivals_below : List (List ℕ) → List Fate → ℕ → List Record
arrivals_below packets fates t = flat_map (arrivals_at packets fates) (range_with_len 0 t)
