-- The places of the bits of samples in the frames of a good plan, and the ticks of samples.
use Rattle.std.proofs.Common.{◌≡◌, ℕ, ◌+◌, ◌*◌, ◌/◌, ◌%◌, ◌<◌, ◌≤◌, Some, slice_get, sym, subst, ap, ◌∙◌, arith, inl, inr}
use Rattle.std.specs.Int.{div_ceil}
use Rattle.std.proofs.lemmas.Bool.{cases_order}
use Rattle.std.proofs.lemmas.Nat.{div-add-mod', le-div, mod_below, mul-le}
use Rattle.std.proofs.lemmas.Option.{get_or_from_slice_get, slice_get_within}
use Rattle.carrier_plan.specs.declared.plan.Carrier.{Carrier}
use Rattle.carrier_plan.specs.declared.plan.Flow.{Flow}
use Rattle.carrier_plan.specs.declared.plan.Piece.{Piece}
use Rattle.carrier_plan.specs.declared.plan.Plan.{Plan}
use Rattle.link_receiver.proofs.Places.{IsGoodCarrier, frame_in_time, good_carrier, places_within, samples_before-carrier}
use Rattle.link_sender.specs.Frames.{StandsAt}
use Rattle.plan_checker.proofs.IqBits.{in_pieces}
use Rattle.plan_checker.proofs.Longest.{greatest_bounds}
use Rattle.plan_checker.proofs.Places.{at_place}
use Rattle.plan_checker.specs.Container.{LiesWithin, container_size}
use Rattle.plan_checker.specs.Laws.{EachBitHasOneSample}
use Rattle.plan_checker.specs.Packets.{run_packets}
use Rattle.plan_checker.specs.Place.{BitPlace, place_in_block, place_of}
use Rattle.plan_checker.specs.Rules.{IsGood}
use Rattle.plan_checker.specs.Rules.Rule.{ContainerEnd}
use Rattle.plan_checker.specs.Run.{IsDue, longest_block, samples_before}
use Rattle.plan_checker.specs.WordSize.{iq_bits}
use Rattle.sample_bits.proofs.RateLemmas.{div_ceil-enough, lt-cancel}

-- ---- numbers

-- more basic frames carry no fewer samples
samples_grow : (m n s k : ℕ) → 1 ≤ k → m ≤ n → m * s / k ≤ n * s / k
samples_grow m n s k some order =
    let split = div-add-mod' (m * s) k in
    le-div (m * s / k) (n * s) k some (omega (arith, split, mul-le m s n s order (omega arith)))

-- one item is in one tick
one_tick : (m n s k j : ℕ) → 1 ≤ k → m * s / k ≤ j → j < (m + 1) * s / k → n * s / k ≤ j → j < (n + 1) * s / k → m ≡ n
one_tick m n s k j some low high from before =
    elim (cases_order m n) [
      | inl same ↦ same
      | inr apart ↦ elim apart [
        | inl less ↦ let grows = samples_grow (m + 1) n s k some (omega arith) in absurd (omega arith)
        | inr more ↦ let grows = samples_grow (n + 1) m s k some (omega arith) in absurd (omega arith)
      ]
    ]

-- the packet of a frame below n is one of those that carry n frames
packet_below : (frame n frames : ℕ) → 1 ≤ frames → frame < n → frame / frames < div_ceil n frames
packet_below frame n frames some below =
    let split = div-add-mod' frame frames in
    let enough = div_ceil-enough n frames some in
    lt-cancel (frame / frames) (div_ceil n frames) frames (omega (arith, split, enough))

-- ---- a carrier

module _ (p : Plan) (c : ℕ) (carrier : Carrier) (good : IsGood p) (read : slice_get p.carriers c ≡ Some carrier) where
  abbrev good_one : IsGoodCarrier p c carrier
  good_one = good_carrier p c carrier good read

  -- no block is longer than the longest
  pub block_within : carrier.k ≤ longest_block p
  block_within =
      let bounds = (greatest_bounds 0 p.carriers).1 in
      let k : ℕ → Carrier → Type 0 = λ most x. x.k ≤ most in
      subst (k (longest_block p)) (get_or_from_slice_get p.carriers c carrier carrier read) (bounds c carrier (slice_get_within p.carriers c carrier read))

  -- how many samples are handed in before a tick
  abbrev handed_in : (n : ℕ) → samples_before p c n ≡ n * carrier.s / carrier.k
  handed_in n = samples_before-carrier p c carrier n good_one

  -- a sample is handed in at one tick
  pub tick_of-due : (m n j : ℕ) → IsDue p c m j → IsDue p c n j → m ≡ n
  tick_of-due m n j first second =
      one_tick m n carrier.s carrier.k j good_one.some_frames
      (subst (λ x. x ≤ j) (handed_in m) first.0) (subst (λ x. j < x) (handed_in (m + 1)) first.1)
      (subst (λ x. x ≤ j) (handed_in n) second.0) (subst (λ x. j < x) (handed_in (n + 1)) second.1)

  -- A sample that is handed in at a tick of the run is one of those that are handed in before its end.
  pub due_before : (h n j : ℕ) → n < h → IsDue p c n j → j < samples_before p c h
  due_before h n j lt due =
      let grows = samples_grow (n + 1) h carrier.s carrier.k good_one.some_frames (omega arith) in
      omega (arith, due.1, handed_in (n + 1), handed_in h, grows)

  module _ (j b : ℕ) (bit : b < 2 * carrier.m) where
    -- the bit of the container at which bit b of sample j stands
    abbrev pub container_bit : ℕ
    container_bit = (place_in_block carrier.method carrier.m carrier.s carrier.k (j % carrier.s) b).bit

    pub container_bit-lt : container_bit < container_size carrier
    container_bit-lt =
        let inside = places_within carrier.method carrier.m carrier.s carrier.k (j % carrier.s) b good_one.width good_one.rate (mod_below j carrier.s good_one.rate.some_samples) bit in
        omega (arith, inside.1, good_one.size.prescribed)

    -- the IQ bit is one of the frame
    pub bit_within : (place_of carrier j b).bit < iq_bits p.option
    bit_within =
        let ends = at_place (LiesWithin (iq_bits p.option)) p.carriers c carrier read (good ContainerEnd c (slice_get_within p.carriers c carrier read)) in
        let found = in_pieces carrier.pieces container_bit container_bit-lt in
        let end : found.1.start + found.1.size ≤ iq_bits p.option = subst (λ (piece : Piece). piece.start + piece.size ≤ iq_bits p.option) found.3 (ends found.0 found.1 found.2) in
        omega (arith, end, found.4.1)

    -- The packets of a run carry the frames in which a sample stands that is handed in at a tick of the run.
    pub packet_within : (h n : ℕ) (f : Flow) → 1 ≤ f.frames → n < h → IsDue p c n j → (place_of carrier j b).frame / f.frames < run_packets p f h
    packet_within h n f some lt due =
        let early : j < (n + 1) * carrier.s / carrier.k = subst (λ x. j < x) (handed_in (n + 1)) due.1 in
        let last = frame_in_time carrier n j b good_one.width good_one.rate good_one.some_frames early bit in
        packet_below (place_of carrier j b).frame (h + longest_block p) f.frames some (omega (arith, last, block_within))

-- ---- one bit

-- At an IQ bit of a frame stands one bit of one sample.
pub record IsSameBit (c j b d i a : ℕ) : Type 0 where
  pub carrier : c ≡ d
  pub number : j ≡ i
  pub place : b ≡ a

pub one_bit : EachBitHasOneSample → (p : Plan) (n x c j b d i a : ℕ) → IsGood p → StandsAt p n x c j b → StandsAt p n x d i a → IsSameBit c j b d i a
one_bit law p n x c j b d i a good first second =
    let here = place_of first.carrier j b in
    let there = place_of second.carrier i a in
    let place : ℕ → ℕ → BitPlace = λ frame bit. record { frame = frame; bit = bit } in
    let same : here ≡ there = ap (λ k. place k here.bit) (first.frame ∙ sym second.frame) ∙ ap (place there.frame) (first.bit ∙ sym second.bit) in
    let bit = law p c d j i b a first.carrier second.carrier good first.at second.at first.within second.within same in
    record { carrier = bit.0; number = bit.1; place = bit.2 }
