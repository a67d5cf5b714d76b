-- The value of an entry: the sample of the stream, or none where the sample loses a bit.
use Rattle.std.proofs.Common.{◌≡◌, ℕ, ◌+◌, ◌*◌, ◌/◌, ◌%◌, ◌<◌, ◌≤◌, Bool, true, false, List, get_or, Contains, IsTrue, Option, Some, None, slice_get, pos, refl, sym, ap, ◌∙◌, subst, arith}
use Rattle.std.specs.List.{list_any, range_with_len}
use Rattle.std.specs.Option.{is_some, option_map}
use Rattle.std.proofs.lemmas.Bool.{both_ways, cond_both, true≢false, false_from_ne_true}
use Rattle.std.proofs.lemmas.List.Folds.{Any-from_list_any, list_any_at}
use Rattle.std.proofs.lemmas.List.FromFn.{get_or-range_with_len, length-range_with_len}
use Rattle.std.proofs.lemmas.Nat.{div-add-mod', mod_below}
use Rattle.std.proofs.lemmas.Option.{slice_get_within}
use Rattle.carrier_plan.specs.declared.plan.Carrier.{Carrier}
use Rattle.carrier_plan.specs.declared.plan.Flow.{Flow}
use Rattle.carrier_plan.specs.declared.plan.Plan.{Plan}
use Rattle.link_base.specs.Record.{Record}
use Rattle.link_receiver.proofs.Places.{good_carrier}
use Rattle.link_receiver.specs.Output.{bit_at_place, bit_if_received, is_marked, value_in, value_of}
use Rattle.link_receiver.specs.Received.{is_missed, is_missed_by, part_of_frame, received}
use Rattle.link_receiver.specs.Records.{window_of}
use Rattle.link_sender.specs.Packets.{CarriesFrame}
use Rattle.link_sender.specs.Stream.{IsStream, Stream, sample_at}
use Rattle.plan_checker.specs.Flows.{HasPayload, lists}
use Rattle.plan_checker.specs.Laws.{EachBitHasOneSample}
use Rattle.plan_checker.specs.Packets.{run_packets}
use Rattle.plan_checker.specs.Place.{place_of}
use Rattle.plan_checker.specs.Rules.{IsGood}
use Rattle.plan_checker.specs.Rules.Rule.{PayloadSize}
use Rattle.plan_checker.specs.Run.{IsDue}
use Rattle.playout_buffer.specs.Held.{part_of}
use Rattle.roe_mappers.specs.Laws.{PartsAreGivenBack}
use Rattle.roe_mappers.specs.Symbols.{bad_symbol}
use Rattle.sample_bits.proofs.SampleOfBits.{sample_of_bits-unique}
use Rattle.sample_bits.specs.SampleOfBits.{sample_of_bits}
use Rattle.sample_bits.specs.Samples.{IsWithin, sample_bit}
use Rattle.link_run_delay.specs.Delay.{AreFresh, IsLost, IsPlain, IsValue, LosesBit}
use Rattle.link_run_delay.proofs.BitPlaces.{due_before, packet_within}
use Rattle.link_run_delay.proofs.CarriedFrames.{given_back, sample_bit-given, sample_bit-le}
use Rattle.link_run_delay.proofs.CarryingFlows.{find-lists}
use Rattle.link_run_delay.proofs.ReceivedPackets.{at_contained, received-none, received-not_lost, received-payload}

-- ---- a test of each number below n

missing : (test : ℕ → Bool) (n : ℕ) → list_any test (range_with_len 0 n) ≡ true → (k : ℕ) × (k < n) × (test k ≡ true)
missing test n found =
    let any = Any-from_list_any test (range_with_len 0 n) found in
    let lt : any.0 < n = omega (arith, any.2, length-range_with_len 0 n) in
    let is : any.1 ≡ any.0 = sym any.3 ∙ (get_or-range_with_len 0 n any.0 any.1 lt ∙ omega arith) in
    (any.0, lt, ap test (sym is) ∙ any.4)

present : (test : ℕ → Bool) (n : ℕ) → list_any test (range_with_len 0 n) ≡ false → (k : ℕ) → k < n → test k ≡ false
present test n none k lt =
    let is : get_or (range_with_len 0 n) k 0 ≡ k = get_or-range_with_len 0 n k 0 lt ∙ omega arith in
    false_from_ne_true (test k)
    (λ yes. both_ways (list_any test (range_with_len 0 n)) none
    (list_any_at test (range_with_len 0 n) k 0 (omega (arith, length-range_with_len 0 n)) (ap test is ∙ yes)))

-- ---- frames

some_frames_of : (p : Plan) (f : Flow) → IsGood p → Contains p.flows f → 1 ≤ f.frames
some_frames_of p f good listed = (at_contained (HasPayload p) p.flows f (good PayloadSize) listed).some_frames

-- what is received of a frame that is not missed
pub record IsKept (p : Plan) (σ : Stream) (f : Flow) (h : ℕ) (records : List Record) (n : ℕ) : Type 0 where
  pub part : List ℕ
  pub received : part_of_frame p f h records n ≡ Some part
  pub carries : CarriesFrame p σ f n part
  pub not_lost : ¬ IsLost p σ f records (n / f.frames)

module _ (law : PartsAreGivenBack) (p : Plan) (h : ℕ) (σ : Stream) (records : List Record) (good : IsGood p) (plain : IsPlain p) (fresh : AreFresh p h σ records) (f : Flow) (listed : Contains p.flows f) (n : ℕ) where
  -- the octets of the frame, by the payload of its packet
  abbrev part_by : Option (List ℕ) → Option (List ℕ)
  part_by found = option_map (part_of (window_of p f h) n) found

  part_carries : (payload : List ℕ) → received p f h records (n / f.frames) ≡ Some payload → CarriesFrame p σ f n (part_of (window_of p f h) n payload)
  part_carries payload e =
      let carries = received-payload p h σ f good plain listed records (n / f.frames) payload fresh e in
      let number : n / f.frames * f.frames + n % f.frames ≡ n = div-add-mod' n f.frames in
      subst (λ k. CarriesFrame p σ f k (part_of (window_of p f h) n payload)) number (carries.parts (n % f.frames) (mod_below n f.frames (some_frames_of p f good listed)))

  lost_by : n / f.frames < run_packets p f h → (found : Option (List ℕ)) → received p f h records (n / f.frames) ≡ found → is_missed_by p n (part_by found) ≡ true → IsLost p σ f records (n / f.frames)
  lost_by within None e missed = received-none p h σ f good plain listed records (n / f.frames) within e
  lost_by within (Some payload) e missed =
      let part = part_of (window_of p f h) n payload in
      let back = given_back law p σ f n part good listed (part_carries payload e) in
      absurd (both_ways (is_some (bad_symbol p.mode n part)) (ap is_some back.good) missed)

  -- a frame that is missed is of a packet that is lost
  pub lost_if_missed : n / f.frames < run_packets p f h → is_missed p f h records n ≡ true → IsLost p σ f records (n / f.frames)
  unfolding part_of_frame
  lost_if_missed within missed = lost_by within (received p f h records (n / f.frames)) refl missed

  kept_by : (found : Option (List ℕ)) → received p f h records (n / f.frames) ≡ found → is_missed_by p n (part_by found) ≡ false → IsKept p σ f h records n
  unfolding part_of_frame
  kept_by None e kept = absurd (true≢false kept)
  kept_by (Some payload) e kept = record {
    part = part_of (window_of p f h) n payload;
    received = ap part_by e;
    carries = part_carries payload e;
    not_lost = received-not_lost p h σ f good plain listed records (n / f.frames) payload fresh e;
  }

  pub kept_if_not_missed : is_missed p f h records n ≡ false → IsKept p σ f h records n
  unfolding part_of_frame
  kept_if_not_missed kept = kept_by (received p f h records (n / f.frames)) refl kept

-- ---- the value

module _ (one : EachBitHasOneSample) (law : PartsAreGivenBack) (p : Plan) (h : ℕ) (σ : Stream) (records : List Record) (good : IsGood p) (plain : IsPlain p) (stream : IsStream p h σ) (fresh : AreFresh p h σ records) (f : Flow) (listed : Contains p.flows f) (c : ℕ) (lists_it : IsTrue (lists c f)) (carrier : Carrier) (read : slice_get p.carriers c ≡ Some carrier) (n j : ℕ) (lt : n < h) (due : IsDue p c n j) where
  -- the bits that are received
  abbrev bits : ℕ → ℕ
  bits b = bit_at_place p f h records (place_of carrier j b)

  kept_bit : (b : ℕ) → b < 2 * carrier.m → IsKept p σ f h records (place_of carrier j b).frame → bits b ≡ sample_bit (sample_at σ c j) b
  kept_bit b within kept =
      ap (bit_if_received p f (place_of carrier j b).bit) kept.received
      ∙ sample_bit-given one law p σ f c carrier j b kept.part good listed lists_it read within kept.carries

  -- the sample is one of the stream, of the carrier's width
  sample_fits : IsWithin carrier.m (sample_at σ c j)
  sample_fits =
      stream.widths c carrier read j (record { i = pos 0; q = pos 0 })
      (omega (arith, stream.samples c carrier read, due_before p c carrier good read h n j lt due))

  all_kept : is_marked p f h records carrier j ≡ false → (b : ℕ) → b < 2 * carrier.m → IsKept p σ f h records (place_of carrier j b).frame
  all_kept unmarked b within =
      kept_if_not_missed law p h σ records good plain fresh f listed (place_of carrier j b).frame
      (present (λ a. is_missed p f h records (place_of carrier j a).frame) (2 * carrier.m) unmarked b within)

  -- no bit is lost, and the bits are the sample's
  value_kept : is_marked p f h records carrier j ≡ false → IsValue p σ f records c carrier j (Some (sample_of_bits carrier.m bits))
  value_kept unmarked =
      let width = (good_carrier p c carrier good read).width in
      let kept = all_kept unmarked in
      let same : (b : ℕ) → b < 2 * carrier.m → sample_bit (sample_at σ c j) b ≡ bits b = λ b within. sym (kept_bit b within (kept b within)) in
      let small : (b : ℕ) → b < 2 * carrier.m → bits b ≤ 1 = λ b within. subst (λ x. x ≤ 1) (same b within) (sample_bit-le (sample_at σ c j) b) in (
        sym (sample_of_bits-unique carrier.m bits (sample_at σ c j) (omega (arith, width.0)) (omega (arith, width.1)) small sample_fits same),
        λ loses. (kept loses.place loses.within).not_lost loses.lost,
      )

  -- a frame with a bit of the sample is missed, and its packet lost
  value_lost : is_marked p f h records carrier j ≡ true → LosesBit p σ f records carrier j
  value_lost marked =
      let found = missing (λ a. is_missed p f h records (place_of carrier j a).frame) (2 * carrier.m) marked in
      record {
        place = found.0;
        within = found.1;
        lost = lost_if_missed law p h σ records good plain fresh f listed (place_of carrier j found.0).frame
            (packet_within p c carrier good read j found.0 found.1 h n f (some_frames_of p f good listed) lt due) found.2;
      }

  value_in_flow : IsValue p σ f records c carrier j (value_in p (Some f) h records carrier j)
  value_in_flow =
      cond_both (is_marked p f h records carrier j) None (Some (sample_of_bits carrier.m bits)) (IsValue p σ f records c carrier j) value_lost value_kept

  pub value_of-is : IsValue p σ f records c carrier j (value_of p h records c carrier j)
  unfolding value_of
  value_of-is =
      subst (λ flow. IsValue p σ f records c carrier j (value_in p flow h records carrier j))
      (sym (find-lists p f c good (slice_get_within p.carriers c carrier read) listed lists_it)) value_in_flow
