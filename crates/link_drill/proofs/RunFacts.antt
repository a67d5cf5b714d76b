-- What the samples and the records of a drill are: a stream of its plan, and packets of that stream which come in their windows.
-- From these a law over delays gives that each sample is equal or marked.
use Rattle.std.proofs.Common.{◌≡◌, ℕ, ◌+◌, ◌*◌, ◌/◌, ◌%◌, ◌<◌, ◌≤◌, ◌==◌, List, [], ◌∷◌, All, length, map, get_or, slice_get, Some, refl, sym, ap, ◌∙◌, subst, arith}
use Rattle.std.specs.List.{range_with_len}
use Rattle.std.proofs.lemmas.Bool.{cond_both, eqb-true}
use Rattle.std.proofs.lemmas.List.Elements.{All-cons, All-map, All-nil}
use Rattle.std.proofs.lemmas.List.FromFn.{get_or-map-range_with_len, length-map-range_with_len}
use Rattle.std.proofs.lemmas.Nat.{div_below, mod_below, mul-le}
use Rattle.std.proofs.lemmas.Option.{slice_get_within}
use Rattle.carrier_plan.specs.declared.plan.Carrier.{Carrier}
use Rattle.carrier_plan.specs.declared.plan.Flow.{Flow}
use Rattle.carrier_plan.specs.declared.plan.Plan.{Plan}
use Rattle.link_base.specs.Record.{Record}
use Rattle.link_base.specs.Window.{IsOpen}
use Rattle.link_sender.specs.Senders.{zero_sample}
use Rattle.link_sender.specs.Stream.{IsStream, Stream, samples_of}
use Rattle.link_sender.specs.Whole.{packet_of}
use Rattle.plan_checker.specs.Run.{samples_before}
use Rattle.sample_bits.specs.Samples.{IsWithin}
use Rattle.sample_bits.specs.declared.iq.RawIq.{RawIq}
use Rattle.link_drill.specs.declared.fates.Fate.{Fate}
use Rattle.link_drill.specs.declared.fates.Fate.TheVariants.{Lost, Arrives}
use Rattle.link_drill.specs.Arrivals.{arrivals_below, arrivals_by, arrivals_of_first, arrivals_of_packet, record_or_two}
use Rattle.link_drill.specs.Draws.{draw}
use Rattle.link_drill.specs.DrillPlan.{drill_carrier}
use Rattle.link_drill.specs.DrillStream.{carrier_samples, drawn_place, drill_stream}
use Rattle.link_drill.specs.Fates.{fate_by, fate_draw, fate_of, fates_of, opening}
use Rattle.link_drill.specs.Sent.{packets_of}
use Rattle.link_drill.proofs.PlanFacts.{IsDrillPlan, as_many_carriers, carrier_read, samples_before-four}
use Rattle.link_drill.proofs.Ranges.{All-flat_map, All-range}
use Rattle.link_drill.proofs.SendSteps.{drill_samples}

-- ---- the stream

pub place_within : (Y h c j : ℕ) → c < Y → j < 4 * h → drawn_place Y c j < 4 * (h * Y)
place_within Y h c j low less =
    let block = div_below j 4 h (omega arith) (omega arith) in
    let last = mod_below j 4 (omega arith) in
    let blocks = mul-le (j / 4 + 1) Y h Y (omega arith) (omega arith) in
    omega (arith, blocks, last, low)

module _ (p : Plan) (Y : ℕ) (is : IsDrillPlan p Y) (h : ℕ) (drawn : List RawIq) (many : length drawn ≡ 4 * (h * Y)) (widths : All (IsWithin 15) drawn) where
  carrier_within : (c : ℕ) → c < Y → All (IsWithin 15) (carrier_samples Y drawn c (4 * h))
  carrier_within c low =
      All-map (IsWithin 15) (λ j. get_or drawn (drawn_place Y c j) zero_sample) (range_with_len 0 (4 * h))
      (All-range (λ j. IsWithin 15 (get_or drawn (drawn_place Y c j) zero_sample)) 0 (4 * h)
      (λ j from below. widths (drawn_place Y c j) zero_sample (omega (arith, many, place_within Y h c j low (omega arith)))))

  carrier_count : (c : ℕ) → c < Y → length (samples_of (drill_stream Y h drawn) c) ≡ samples_before p c h
  carrier_count c low =
      ap (λ (xs : List RawIq). length xs) (drill_samples Y h drawn c low)
      ∙ length-map-range_with_len (λ j. get_or drawn (drawn_place Y c j) zero_sample) 0 (4 * h) ∙ sym (samples_before-four p Y is c h low)

  carrier_low : (c : ℕ) (carrier : Carrier) → slice_get p.carriers c ≡ Some carrier → c < Y
  carrier_low c carrier read = omega (arith, slice_get_within p.carriers c carrier read, as_many_carriers p Y is)

  carrier_is : (c : ℕ) (carrier : Carrier) → slice_get p.carriers c ≡ Some carrier → drill_carrier c ≡ carrier
  carrier_is c carrier read =
      let same : Some (drill_carrier c) ≡ Some carrier = sym (carrier_read p Y is c (carrier_low c carrier read)) ∙ read in
      cc

  carriers_within : (c : ℕ) (carrier : Carrier) → slice_get p.carriers c ≡ Some carrier → All (IsWithin carrier.m) (samples_of (drill_stream Y h drawn) c)
  carriers_within c carrier read =
      let low = carrier_low c carrier read in
      subst (λ (x : Carrier). All (IsWithin x.m) (samples_of (drill_stream Y h drawn) c)) (carrier_is c carrier read)
      (subst (λ (xs : List RawIq). All (IsWithin 15) xs) (sym (drill_samples Y h drawn c low)) (carrier_within c low))

  as_many : length (map (λ c. carrier_samples Y drawn c (4 * h)) (range_with_len 0 Y)) ≡ length p.carriers
  as_many = length-map-range_with_len (λ c. carrier_samples Y drawn c (4 * h)) 0 Y ∙ sym (as_many_carriers p Y is)

  -- The samples of a drill are a stream of its plan.
  pub drill_stream-is : IsStream p h (drill_stream Y h drawn)
  unfolding drill_stream
  drill_stream-is = record {
    carriers = as_many;
    samples = λ c carrier read. carrier_count c (carrier_low c carrier read);
    widths = carriers_within;
    announced = record { version = refl; hdlc = refl; pointer = refl; l1 = omega arith };
    no_state = refl;
    slow_frames = All-nil _;
    fast_frames = All-nil _;
    no_slow = λ none. refl;
    no_fast = λ none. refl;
  }

-- ---- the records

-- the record is a packet of so many, and comes in its window
pub record ComesInTime (octets_of : ℕ → List ℕ) (count : ℕ) (r : Record) : Type 0 where
  pub number : ℕ
  pub in_run : number < count
  pub open_then : IsOpen 4 10 30 r.tick number
  pub octets : r.octets ≡ octets_of number

module _ (octets_of : ℕ → List ℕ) (count : ℕ) where
  abbrev Comes : Record → Type 0
  Comes = ComesInTime octets_of count

  by_fate : (t i d e : ℕ) → i < count → All Comes (arrivals_by t (octets_of i) (fate_by i d e))
  by_fate t i d e low =
      let octets = octets_of i in
      let tick = opening i + e % 21 in
      let late = mod_below e 21 (omega arith) in
      let r : Record = record { tick = t; octets = octets } in
      let comes : tick ≡ t → Comes r = λ now. record { number = i; in_run = low; open_then = (omega (arith, now), omega (arith, now, late)); octets = refl } in
      let one : tick ≡ t → All Comes (r ∷ []) = λ now. All-cons Comes r [] (comes now) (All-nil Comes) in
      let two : tick ≡ t → All Comes (r ∷ r ∷ []) = λ now. All-cons Comes r (r ∷ []) (comes now) (one now) in
      cond_both (d % 16 == 0) Lost (Arrives tick (d % 16 == 1)) (λ (fate : Fate). All Comes (arrivals_by t octets fate))
      (λ lost. All-nil Comes)
      (λ arrives. cond_both (tick == t) (record_or_two t octets (d % 16 == 1)) [] (All Comes)
      (λ now. let at = eqb-true tick t now in cond_both (d % 16 == 1) (r ∷ r ∷ []) (r ∷ []) (All Comes) (λ again. two at) (λ once. one at))
      (λ other. All-nil Comes))

module _ (p : Plan) (σ : Stream) (f : Flow) (number first count : ℕ) where
  abbrev packets : List (List ℕ)
  packets = packets_of p σ f count

  abbrev fates : List Fate
  fates = fates_of number first count

  packet_at : (i : ℕ) → i < count → get_or packets i [] ≡ packet_of p σ f i
  unfolding packets_of
  packet_at i low = get_or-map-range_with_len (packet_of p σ f) 0 count i i [] low (omega arith)

  fate_at : (i : ℕ) → i < count → get_or fates i Lost ≡ fate_of number first i
  unfolding fates_of
  fate_at i low = get_or-map-range_with_len (fate_of number first) 0 count i i Lost low (omega arith)

  long : length packets ≡ count
  unfolding packets_of
  long = length-map-range_with_len (packet_of p σ f) 0 count

  each_comes : (t i : ℕ) → i < count → All (ComesInTime (packet_of p σ f) count) (arrivals_of_packet packets fates t i)
  each_comes t i low =
      let k = fate_draw number first i in
      subst (λ (records : List Record). All (ComesInTime (packet_of p σ f) count) records)
      (ap (λ fate. arrivals_by t (packet_of p σ f i) fate) (sym (fate_at i low)) ∙ ap (λ octets. arrivals_by t octets (get_or fates i Lost)) (sym (packet_at i low)))
      (by_fate (packet_of p σ f) count t i (draw number k) (draw number (k + 1)) low)

  first_come : (t n : ℕ) → n ≤ count → All (ComesInTime (packet_of p σ f) count) (arrivals_of_first packets fates t n)
  unfolding arrivals_of_first
  first_come t n few = All-flat_map (ComesInTime (packet_of p σ f) count) (arrivals_of_packet packets fates t) 0 n (λ i from below. each_comes t i (omega arith))

  -- The records of a drill are its packets, each in its window.
  pub records_in_time : (n : ℕ) → All (ComesInTime (packet_of p σ f) count) (arrivals_below packets fates n)
  unfolding arrivals_below
  records_in_time n =
      All-flat_map (ComesInTime (packet_of p σ f) count) (λ t. arrivals_of_first packets fates t (length packets)) 0 n (λ t from below. first_come t (length packets) (omega (arith, long)))
