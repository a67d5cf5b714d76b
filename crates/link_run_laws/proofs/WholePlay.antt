-- Where no packet of a stream is lost, no frame is missed, each packet is received, and each sample leaves with its value.
use Rattle.std.proofs.Common.{◌≡◌, ℕ, ◌+◌, ◌-◌, ◌/◌, ◌<◌, true, IsTrue, List, [], ◌∷◌, length, map, get_or, Contains, Option, Some, None, slice_get, eqb, leb, ltb, ◌&&◌, refl, ap, ◌∙◌, arith}
use Rattle.std.specs.Prelude.{filter}
use Rattle.std.specs.List.{range_with_len}
use Rattle.std.specs.Option.{is_some}
use Rattle.std.proofs.lemmas.Bool.{and_parts, eqb-true, ltb-true}
use Rattle.std.proofs.lemmas.List.Elements.{All-contains_itself, All-filter, filter_passes}
use Rattle.std.proofs.lemmas.List.Sums.{length-filter}
use Rattle.std.proofs.lemmas.Option.{slice_get-get_or}
use Rattle.carrier_plan.specs.declared.plan.Carrier.{Carrier}
use Rattle.carrier_plan.specs.declared.plan.Flow.{Flow}
use Rattle.carrier_plan.specs.declared.plan.Plan.{Plan}
use Rattle.link_base.specs.Record.{Record}
use Rattle.link_receiver.specs.Output.{all_entries, entries_at, entries_by, entries_of, entry_of, value_of}
use Rattle.link_receiver.specs.Received.{received, taken}
use Rattle.link_receiver.specs.declared.entry.Entry.{Entry}
use Rattle.link_run_delay.proofs.BitPlaces.{packet_within}
use Rattle.link_run_delay.proofs.ReceivedPackets.{at_contained, received-none}
use Rattle.link_run_delay.proofs.SampleValues.{value_of-is}
use Rattle.link_run_delay.specs.Delay.{AreFresh, AreUnaltered, IsLost, IsPlain, IsValue, LosesBit, SamplesAreDelayed, tells_of}
use Rattle.link_sender.specs.Stream.{IsStream, Stream, sample_at}
use Rattle.plan_checker.specs.Flows.{HasPayload, lists}
use Rattle.plan_checker.specs.Laws.{EachBitHasOneSample}
use Rattle.plan_checker.specs.Packets.{run_packets}
use Rattle.plan_checker.specs.Place.{place_of}
use Rattle.plan_checker.specs.Rules.{IsGood}
use Rattle.plan_checker.specs.Rules.Rule.{PayloadSize, SharedOut}
use Rattle.plan_checker.specs.Run.{IsDue, delay_of, samples_before, samples_due}
use Rattle.playout_buffer.specs.Received as buffer
use Rattle.roe_mappers.specs.Laws.{PartsAreGivenBack}
use Rattle.sample_bits.specs.declared.iq.RawIq.{RawIq}
use Rattle.link_run_laws.specs.SentArePlayed.{LeavesUnchanged, carrier_entries, sample_entry, tick_entries}
use Rattle.link_run_laws.proofs.Pieces.{cond-same, count_by-all, first_of_one, flat_map-same, map-same}

-- a flow that lists a carrier
record Carries (p : Plan) (c : ℕ) : Type 0 where
  flow : Flow
  listed : Contains p.flows flow
  lists_it : IsTrue (lists c flow)

carrying : (p : Plan) (c : ℕ) → IsGood p → c < length p.carriers → Carries p c
carrying p c good lt =
    let one = length-filter (lists c) p.flows ∙ (good SharedOut 0 (omega arith)).one_flow c lt in
    let of_plan = All-filter (lists c) (Contains p.flows) p.flows (All-contains_itself p.flows) in
    let passes = filter_passes (lists c) p.flows in
    let first = first_of_one (λ f. Contains p.flows f × IsTrue (lists c f)) (filter (lists c) p.flows) one (λ k d less. (of_plan k d less, passes k d less)) in
    record { flow = first.0; listed = first.1.0; lists_it = first.1.1 }

module _ (p : Plan) (h : ℕ) (σ : Stream) (records : List Record) (good : IsGood p) (plain : IsPlain p) (stream : IsStream p h σ) (fresh : AreFresh p h σ records)
    (none_lost : (f : Flow) (i : ℕ) → Contains p.flows f → i < run_packets p f h → ¬ IsLost p σ f records i) where
  -- ---- packets

  is_received : (f : Flow) (i : ℕ) → Contains p.flows f → i < run_packets p f h → (found : Option (List ℕ)) → received p f h records i ≡ found → is_some found ≡ true
  is_received f i listed in_run None none = absurd (none_lost f i listed in_run (received-none p h σ f good plain listed records i in_run none))
  is_received f i listed in_run (Some payload) some = refl

  pub all_received : (f : Flow) → Contains p.flows f → taken p f h records ≡ run_packets p f h
  unfolding taken buffer.taken
  all_received f listed =
      count_by-all (λ i. is_some (received p f h records i)) 0 (run_packets p f h)
      (λ i from below. is_received f i listed (omega (arith, below)) (received p f h records i) refl)

  -- ---- values

  no_bit_lost : (f : Flow) (c : ℕ) (carrier : Carrier) (n j : ℕ) → Contains p.flows f → slice_get p.carriers c ≡ Some carrier → n < h → IsDue p c n j → ¬ LosesBit p σ f records carrier j
  no_bit_lost f c carrier n j listed read lt due loses =
      let some = (at_contained (HasPayload p) p.flows f (good PayloadSize) listed).some_frames in
      none_lost f ((place_of carrier j loses.place).frame / f.frames) listed
      (packet_within p c carrier good read j loses.place loses.within h n f some lt due) loses.lost

  value_by : (f : Flow) (c : ℕ) (carrier : Carrier) (j : ℕ) (value : Option RawIq) → ¬ LosesBit p σ f records carrier j → IsValue p σ f records c carrier j value → value ≡ Some (sample_at σ c j)
  value_by f c carrier j None kept is = absurd (kept is)
  value_by f c carrier j (Some sample) kept is = ap Some is.0

  module _ (one : EachBitHasOneSample) (law : PartsAreGivenBack) where
    value_whole : (c : ℕ) (carrier : Carrier) (n j : ℕ) → c < length p.carriers → slice_get p.carriers c ≡ Some carrier → n < h → IsDue p c n j → value_of p h records c carrier j ≡ Some (sample_at σ c j)
    value_whole c carrier n j within read lt due =
        let by = carrying p c good within in
        value_by by.flow c carrier j (value_of p h records c carrier j) (no_bit_lost by.flow c carrier n j by.listed read lt due)
        (value_of-is one law p h σ records good plain stream fresh by.flow by.listed c by.lists_it carrier read n j lt due)

    entries_by-whole : (t c : ℕ) (carrier : Carrier) → c < length p.carriers → slice_get p.carriers c ≡ Some carrier → entries_by p h records t c (Some carrier) ≡ carrier_entries p h σ t c
    unfolding carrier_entries
    entries_by-whole t c carrier within read =
        let n = t - delay_of p c in
        let now = leb (delay_of p c) t in
        cond-same (now && ltb n h)
        (map (entry_of p h records t c carrier) (range_with_len (samples_before p c n) (samples_due p c n)))
        (map (sample_entry σ t c) (range_with_len (samples_before p c n) (samples_due p c n))) []
        (λ test.
        let lt = ltb-true n h (and_parts now (ltb n h) test).1 in
        map-same (entry_of p h records t c carrier) (sample_entry σ t c) (samples_before p c n) (samples_due p c n)
        (λ j from below.
        ap (λ value. record { tick = t; carrier = c; number = j; value = value })
        (value_whole c carrier n j within read lt (from, omega (arith, below)))))

    entries_of-whole : (t c : ℕ) → c < length p.carriers → (found : Option Carrier) → slice_get p.carriers c ≡ found → entries_of p h records t c ≡ carrier_entries p h σ t c
    unfolding entries_of
    entries_of-whole t c within None read = absurd (outside c within read)
      where
        outside : (c : ℕ) → c < length p.carriers → slice_get p.carriers c ≡ None → ⊥
        outside c within read = none_at p.carriers c within read
          where
            none_at : (xs : List Carrier) (k : ℕ) → k < length xs → slice_get xs k ≡ None → ⊥
            none_at [] k lt none = omega arith
            none_at (x ∷ xs) k lt none = let some = slice_get-get_or (x ∷ xs) k x lt in cc
    entries_of-whole t c within (Some carrier) read = ap (entries_by p h records t c) read ∙ entries_by-whole t c carrier within read

    pub entries_at-whole : (t : ℕ) → entries_at p h records t ≡ tick_entries p h σ t
    unfolding entries_at tick_entries
    entries_at-whole t =
        flat_map-same (entries_of p h records t) (carrier_entries p h σ t) 0 (length p.carriers)
        (λ c from below. entries_of-whole t c (omega (arith, below)) (slice_get p.carriers c) refl)

  -- ---- samples

  entry_whole : (f : Flow) (c n j : ℕ) (carrier : Carrier) (entry : Entry) → IsTrue (tells_of c j entry) → ¬ LosesBit p σ f records carrier j → entry.tick ≡ n + delay_of p c
      → IsValue p σ f records c carrier j entry.value → entry ≡ sample_entry σ (n + delay_of p c) c j
  entry_whole f c n j carrier entry tells kept tick is =
      let parts = and_parts (eqb entry.carrier c) (eqb entry.number j) tells in
      let carrier_is : entry.carrier ≡ c = eqb-true entry.carrier c parts.0 in
      let number_is : entry.number ≡ j = eqb-true entry.number j parts.1 in
      let value_is : entry.value ≡ Some (sample_at σ c j) = value_by f c carrier j entry.value kept is in
      let made : ℕ → ℕ → ℕ → Option RawIq → Entry = λ t d i value. record { tick = t; carrier = d; number = i; value = value } in
      let t = n + delay_of p c in
      ap (λ x. made x entry.carrier entry.number entry.value) tick ∙ ap (λ x. made t x entry.number entry.value) carrier_is
      ∙ ap (λ x. made t c x entry.value) number_is ∙ ap (made t c j) value_is

  pub leaves_unchanged : SamplesAreDelayed → AreUnaltered p h σ records → (c n j : ℕ) → c < length p.carriers → n < h → IsDue p c n j → LeavesUnchanged p σ (all_entries p h records) c n j
  leaves_unchanged delayed unaltered c n j within lt due =
      let sample = delayed p h σ records good plain stream unaltered fresh c n j within lt due in
      let by = carrying p c good within in
      let at = carrier_at p.carriers c within in
      record {
        once = sample.once;
        unchanged = λ k d less tells.
            let played = sample.played k d less tells in
            entry_whole by.flow c n j at.0 (get_or (all_entries p h records) k d) tells (no_bit_lost by.flow c at.0 n j by.listed at.1 lt due) played.tick
            (played.value at.0 by.flow at.1 by.listed by.lists_it);
      }
    where
      carrier_at : (cs : List Carrier) (c : ℕ) → c < length cs → (carrier : Carrier) × (slice_get cs c ≡ Some carrier)
      carrier_at [] c lt = absurd (omega arith)
      carrier_at (x ∷ xs) c lt = (get_or (x ∷ xs) c x, slice_get-get_or (x ∷ xs) c x lt)
