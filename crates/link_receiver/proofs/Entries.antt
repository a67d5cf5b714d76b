-- What is kept of a carrier after a frame was played are its entries at that tick.
use Rattle.std.proofs.Common.{◌≡◌, ℕ, zero, suc, ◌+◌, ◌-◌, ◌*◌, ◌/◌, ◌%◌, ◌<◌, ◌≤◌, Bool, true, false, ◌&&◌, nat_le, nat_lt, cond, List, [], map, find, length, min, Option, Some, None, slice_get, slice_index, slice_index_or, pos, refl, sym, ap, ◌∙◌, arith, inl, inr}
use Rattle.std.specs.Int.{bit_at}
use Rattle.std.specs.List.{HoldsAt, list_any, range_with_len}
use Rattle.std.specs.Option.{is_none, is_some}
use Rattle.std.proofs.lemmas.Bool.{and_from, and_left, and_right, cases_Bool, or_parts, lt-leb, le-leb, lt-ltb, le-ltb}
use Rattle.std.proofs.lemmas.List.FromFn.{get_or-map-range_with_len, length-map-range_with_len}
use Rattle.std.proofs.lemmas.Nat.{div-add-mod', div_below, mod-mul-add, mod_below}
use Rattle.std.proofs.lemmas.Option.{slice_get-get_or}
use Rattle.carrier_plan.specs.declared.plan.Carrier.{Carrier}
use Rattle.carrier_plan.specs.declared.plan.Flow.{Flow}
use Rattle.carrier_plan.specs.declared.plan.Plan.{Plan}
use Rattle.link_base.specs.Record.{Record}
use Rattle.link_receiver_blocks.specs.Containers as blocks
use Rattle.link_receiver_blocks.specs.Containers.{Container, mapping_of, sample_of_block, samples_left, unless_marked}
use Rattle.plan_checker.specs.Container.{container_size}
use Rattle.plan_checker.specs.Flows.{lists}
use Rattle.plan_checker.specs.Place.{BitPlace, iq_bit, place_in_block, place_of}
use Rattle.plan_checker.specs.Rules.{IsGood}
use Rattle.plan_checker.specs.Run.{delay_of, samples_before, samples_due}
use Rattle.roe_mappers.specs.Parts.{part_bit}
use Rattle.roe_mappers.specs.Symbols.{bad_symbol}
use Rattle.sample_bits.specs.SampleOfBits.{sample_of_bits}
use Rattle.sample_bits.specs.declared.iq.RawIq.{RawIq}
use Rattle.sample_bits.proofs.SampleOfBits.{sample_of_bits-same}
use Rattle.link_receiver.specs.Containers.{bits_of_container, block_start, container_by, container_of_frame}
use Rattle.link_receiver.specs.Output.{bit_if_received, bit_at_place, entries_by, entries_handed_in, entries_of, entry_of, is_marked, value_in, value_of}
use Rattle.link_receiver.specs.Received.{is_missed, is_missed_by, part_of_frame}
use Rattle.link_receiver.specs.Runs.{KeepsLeaving, entries_of_kept, entries_of_run, entry_of_run}
use Rattle.link_receiver.specs.declared.carrier_in_hand.CarrierInHand.{CarrierInHand}
use Rattle.link_receiver.specs.declared.entry.Entry.{Entry}
use Rattle.link_receiver.proofs.Blocks.{block_start-at, containers_with, containers_with-range, length-containers_with}
use Rattle.link_receiver.proofs.Places.{IsGoodCarrier, delay_of-carrier, good_carrier, leaves_in_time, leaves_within, place_of-block, places_within, samples_before-block, samples_before-carrier}
use Rattle.link_receiver.proofs.Ranges.{list_any-range, map-ranges}

-- ---- lists

slice_get-map-range : {X : Type 0} (f : ℕ → X) (a n i : ℕ) → i < n → slice_get (map f (range_with_len a n)) i ≡ Some (f (a + i))
slice_get-map-range f a n i low =
    let long = length-map-range_with_len f a n in
    slice_get-get_or (map f (range_with_len a n)) i (f a) (omega arith)
    ∙ ap Some (get_or-map-range_with_len f a n i (a + i) (f a) low refl)

-- a test that fails on a range fails at each number of it
pub fails_each : (g : ℕ → Bool) (a n : ℕ) → list_any g (range_with_len a n) ≡ false → (r : ℕ) → r < n → g (a + r) ≡ false
fails_each g a zero fails r less = absurd (omega arith)
fails_each g a (suc n) fails zero less =
    let here : a + 0 ≡ a = omega arith in
    ap g here ∙ (or_parts (g a) (list_any g (range_with_len (a + 1) n)) fails).0
fails_each g a (suc n) fails (suc r) less =
    let next : a + (suc r) ≡ a + 1 + r = omega arith in
    ap g next ∙ fails_each g (a + 1) n (or_parts (g a) (list_any g (range_with_len (a + 1) n)) fails).1 r (omega arith)

-- ---- a container of a frame

is_none-unless : {X : Type 0} (missed : Bool) (x : X) → is_none (cond missed None (Some x)) ≡ missed
is_none-unless true x = refl
is_none-unless false x = refl

is_none-by : (p : Plan) (f : Flow) (carrier : Carrier) (n : ℕ) (part : Option (List ℕ)) → is_none (container_by p f carrier n part) ≡ is_missed_by p n part
is_none-by p f carrier n None = refl
is_none-by p f carrier n (Some part) = is_none-unless (is_some (bad_symbol p.mode n part)) (bits_of_container p f carrier part)

bit-unless : (missed : Bool) (bits : List ℕ) (b : ℕ) → missed ≡ false → blocks.bit_of_container (cond missed None (Some bits)) b ≡ slice_index bits b
bit-unless missed bits b good = ap (λ m. blocks.bit_of_container (cond m None (Some bits)) b) good

bit-by : (p : Plan) (f : Flow) (carrier : Carrier) (n b : ℕ) (part : Option (List ℕ)) → is_missed_by p n part ≡ false → b < container_size carrier
    → blocks.bit_of_container (container_by p f carrier n part) b ≡ bit_if_received p f (iq_bit carrier.pieces b) part
bit-by p f carrier n b None good low = refl
bit-by p f carrier n b (Some part) good low =
    bit-unless (is_some (bad_symbol p.mode n part)) (bits_of_container p f carrier part) b good
    ∙ get_or-map-range_with_len (λ x. part_bit p f part (iq_bit carrier.pieces x)) 0 (container_size carrier) b b 0 low (omega arith)

is_none-container : (p : Plan) (f : Flow) (h : ℕ) (records : List Record) (carrier : Carrier) (n : ℕ) → is_none (container_of_frame p f h records carrier n) ≡ is_missed p f h records n
unfolding container_of_frame
is_none-container p f h records carrier n = is_none-by p f carrier n (part_of_frame p f h records n)

bit-container : (p : Plan) (f : Flow) (h : ℕ) (records : List Record) (carrier : Carrier) (n b : ℕ) → is_missed p f h records n ≡ false → b < container_size carrier
    → blocks.bit_of_container (container_of_frame p f h records carrier n) b ≡ bit_if_received p f (iq_bit carrier.pieces b) (part_of_frame p f h records n)
unfolding container_of_frame
bit-container p f h records carrier n b good low = bit-by p f carrier n b (part_of_frame p f h records n) good low

abbrev pub the_entry : ℕ → ℕ → ℕ → Option RawIq → Entry
the_entry t c j value = record { tick = t; carrier = c; number = j; value = value }

-- ---- a sample of a block, of which the frames up to one were played

module _ (p : Plan) (f : Flow) (h : ℕ) (records : List Record) (c : ℕ) (carrier : Carrier) (is : IsGoodCarrier p c carrier) (block φ : ℕ) where
  abbrev of_frame : ℕ → Container
  of_frame = container_of_frame p f h records carrier

  -- the containers of the block that were played
  abbrev pub played : List Container
  played = map of_frame (range_with_len ((block + 1) * carrier.k) (φ + 1))

  abbrev phase_of : ℕ → ℕ → ℕ
  phase_of r b = (place_in_block carrier.method carrier.m carrier.s carrier.k r b).phase

  abbrev bit_of_place : ℕ → ℕ → ℕ
  bit_of_place r b = (place_in_block carrier.method carrier.m carrier.s carrier.k r b).bit

  container_at-played : (phase : ℕ) → phase ≤ φ → blocks.container_at played phase ≡ of_frame ((block + 1) * carrier.k + phase)
  container_at-played phase low = ap blocks.container_by (slice_get-map-range of_frame ((block + 1) * carrier.k) (φ + 1) phase (omega arith))

  module _ (r : ℕ) (low : r < carrier.s) (left : r < (φ + 1) * carrier.s / carrier.k) where
    abbrev number : ℕ
    number = block * carrier.s + r

    frame-of : (b : ℕ) → (place_of carrier number b).frame ≡ (block + 1) * carrier.k + phase_of r b
    frame-of b = ap (λ (x : BitPlace). x.frame) (place_of-block carrier block r b low)

    phase-low : (b : ℕ) → b < 2 * carrier.m → phase_of r b ≤ φ
    phase-low b small = leaves_in_time carrier.method carrier.m carrier.s carrier.k r b φ is.width is.rate is.some_frames low small left

    missed-same : (b : ℕ) → b < 2 * carrier.m
        → is_missed p f h records (place_of carrier number b).frame ≡ is_none (blocks.container_at played (phase_of r b))
    missed-same b small =
        ap (is_missed p f h records) (frame-of b)
        ∙ sym (is_none-container p f h records carrier ((block + 1) * carrier.k + phase_of r b))
        ∙ sym (ap is_none (container_at-played (phase_of r b) (phase-low b small)))

    marked-same : is_marked p f h records carrier number ≡ blocks.is_marked (mapping_of carrier) played r
    marked-same =
        list_any-range (λ b. is_missed p f h records (place_of carrier number b).frame) (λ b. is_none (blocks.container_at played (phase_of r b)))
        0 (2 * carrier.m) (λ b small. missed-same (0 + b) (omega arith))

    bit-same : (b : ℕ) → b < 2 * carrier.m → is_missed p f h records (place_of carrier number b).frame ≡ false
        → bit_at_place p f h records (place_of carrier number b) ≡ blocks.bit_at_place played (place_in_block carrier.method carrier.m carrier.s carrier.k r b)
    bit-same b small good =
        let frame = (block + 1) * carrier.k + phase_of r b in
        let bit = bit_of_place r b in
        let within = places_within carrier.method carrier.m carrier.s carrier.k r b is.width is.rate low small in
        let size = is.size.prescribed in
        let inside : bit < container_size carrier = omega (arith, within.1, size) in
        let here : is_missed p f h records frame ≡ false = sym (ap (is_missed p f h records) (frame-of b)) ∙ good in
        ap (bit_at_place p f h records) (place_of-block carrier block r b low)
        ∙ sym (bit-container p f h records carrier frame bit here inside)
        ∙ sym (ap (λ x. blocks.bit_of_container x bit) (container_at-played (phase_of r b) (phase-low b small)))

    abbrev sample_here : RawIq
    sample_here = sample_of_bits carrier.m (λ b. bit_at_place p f h records (place_of carrier number b))

    abbrev sample_there : RawIq
    sample_there = sample_of_bits carrier.m (λ b. blocks.bit_at_place played (place_in_block carrier.method carrier.m carrier.s carrier.k r b))

    sample-same : is_marked p f h records carrier number ≡ false → sample_here ≡ sample_there
    sample-same unmarked =
        sample_of_bits-same carrier.m (λ b. bit_at_place p f h records (place_of carrier number b))
        (λ b. blocks.bit_at_place played (place_in_block carrier.method carrier.m carrier.s carrier.k r b))
        (λ b small.
        let zero_more : b ≡ 0 + b = omega arith in
        let each = fails_each (λ x. is_missed p f h records (place_of carrier number x).frame) 0 (2 * carrier.m) unmarked b small in
        bit-same b small (ap (λ x. is_missed p f h records (place_of carrier number x).frame) zero_more ∙ each))

    chosen : (here there : Bool) → is_marked p f h records carrier number ≡ here → here ≡ there
        → cond here None (Some sample_here) ≡ cond there None (Some sample_there)
    chosen here there is_here same = elim (cases_Bool here) [
      | inl marked ↦ ap (λ m. cond m None (Some sample_here)) marked ∙ ap (λ m. cond m None (Some sample_there)) (sym marked ∙ same)
      | inr unmarked ↦
          ap (λ m. cond m None (Some sample_here)) unmarked ∙ ap Some (sample-same (is_here ∙ unmarked))
          ∙ ap (λ m. cond m None (Some sample_there)) (sym unmarked ∙ same)
    ]

    pub value-block : value_in p (Some f) h records carrier number ≡ sample_of_block (mapping_of carrier) played r
    unfolding sample_of_block
    value-block = chosen (is_marked p f h records carrier number) (blocks.is_marked (mapping_of carrier) played r) refl marked-same

-- ---- the entries of a tick

module _ (p : Plan) (h : ℕ) (records : List Record) (c : ℕ) (carrier : Carrier) (is : IsGoodCarrier p c carrier) (read : slice_get p.carriers c ≡ Some carrier) where
  entries-if : (t : ℕ) (inside : Bool) → (nat_le (delay_of p c) t && nat_lt (t - delay_of p c) h) ≡ inside
      → entries_of p h records t c ≡ cond inside (entries_handed_in p h records t c carrier (t - delay_of p c)) []
  unfolding entries_of
  entries-if t inside is_inside =
      ap (entries_by p h records t c) read ∙ ap (λ b. cond b (entries_handed_in p h records t c carrier (t - delay_of p c)) []) is_inside

  entries-inside : (t n : ℕ) → p.playout + carrier.k + n ≡ t → n < h → entries_of p h records t c ≡ entries_handed_in p h records t c carrier n
  entries-inside t n at inside =
      let delay = delay_of-carrier p c carrier is in
      let gap : t - delay_of p c ≡ n = omega arith in
      let late : delay_of p c ≤ t = omega arith in
      let early : t - delay_of p c < h = omega arith in
      entries-if t true (and_from (nat_le (delay_of p c) t) (nat_lt (t - delay_of p c) h) (le-leb (delay_of p c) t late) (lt-ltb (t - delay_of p c) h early))
      ∙ ap (entries_handed_in p h records t c carrier) gap

  -- before the first sample can leave
  pub entries_of-early : (t : ℕ) → t < p.playout + carrier.k → entries_of p h records t c ≡ []
  entries_of-early t early =
      let delay = delay_of-carrier p c carrier is in
      entries-if t false (and_left (nat_le (delay_of p c) t) (nat_lt (t - delay_of p c) h) (lt-leb (delay_of p c) t (omega arith)))

  -- and after the last
  pub entries_of-past : (t : ℕ) → p.playout + carrier.k + h ≤ t → entries_of p h records t c ≡ []
  entries_of-past t past =
      let delay = delay_of-carrier p c carrier is in
      entries-if t false (and_right (nat_le (delay_of p c) t) (nat_lt (t - delay_of p c) h) (le-ltb (t - delay_of p c) h (omega arith)))

  -- how many samples are handed in at frame φ of a block
  due-of_block : (block φ count : ℕ) → φ * carrier.s / carrier.k + count ≡ (φ + 1) * carrier.s / carrier.k → samples_due p c (block * carrier.k + φ) ≡ count
  due-of_block block φ count counted =
      let first = samples_before-block p c carrier is block φ in
      let next = samples_before-block p c carrier is block (φ + 1) in
      let place : block * carrier.k + φ + 1 ≡ block * carrier.k + (φ + 1) = omega arith in
      let after : samples_before p c (block * carrier.k + φ + 1) ≡ block * carrier.s + (φ + 1) * carrier.s / carrier.k = ap (samples_before p c) place ∙ next in
      omega arith

  module _ (f : Flow) (found : find (lists c) p.flows ≡ Some f) (t block φ : ℕ) (low : φ < carrier.k) where
    value-of_block : (r : ℕ) → r < (φ + 1) * carrier.s / carrier.k
        → value_of p h records c carrier (block * carrier.s + r) ≡ sample_of_block (mapping_of carrier) (played p f h records c carrier is block φ) r
    unfolding value_of
    value-of_block r left =
        let within = leaves_within r φ carrier.s carrier.k is.rate.some_samples is.some_frames low left in
        ap (λ o. value_in p o h records carrier (block * carrier.s + r)) found ∙ value-block p f h records c carrier is block φ r within left

    run-of_block : (number count marks : ℕ) (samples : List RawIq)
        → φ * carrier.s / carrier.k + count ≡ (φ + 1) * carrier.s / carrier.k → number ≡ samples_before p c (block * carrier.k + φ)
        → ((i : ℕ) → i < count → HoldsAt (λ v. unless_marked (bit_at marks i) v ≡ sample_of_block (mapping_of carrier) (played p f h records c carrier is block φ) (φ * carrier.s / carrier.k + i)) samples i)
        → entries_of_run t c number marks samples count ≡ entries_handed_in p h records t c carrier (block * carrier.k + φ)
    run-of_block number count marks samples counted numbered each =
        let m = block * carrier.k + φ in
        let r0 = φ * carrier.s / carrier.k in
        let first = samples_before-block p c carrier is block φ in
        let due = due-of_block block φ count counted in
        let run = entry_of_run t c number marks samples in
        let entry = entry_of p h records t c carrier in
        map-ranges run entry 0 (samples_before p c m) count (λ i less.
        let place : number + (0 + i) ≡ samples_before p c m + i = omega arith in
        let zero_more : 0 + i ≡ i = omega arith in
        let sum : samples_before p c m + i ≡ block * carrier.s + (r0 + i) = omega arith in
        let nothing : RawIq = record { i = pos 0; q = pos 0 } in
        let value : unless_marked (bit_at marks (0 + i)) (slice_index_or samples (0 + i) nothing) ≡ value_of p h records c carrier (samples_before p c m + i)
        = ap (λ k. unless_marked (bit_at marks k) (slice_index_or samples k nothing)) zero_more
        ∙ each i less nothing ∙ sym (ap (value_of p h records c carrier) sum ∙ value-of_block (r0 + i) (omega arith)) in
        ap (λ k. the_entry t c k (unless_marked (bit_at marks (0 + i)) (slice_index_or samples (0 + i) nothing))) place
        ∙ ap (the_entry t c (samples_before p c m + i)) value)
        ∙ ap (λ k. map entry (range_with_len (samples_before p c m) k)) (sym due)

-- what is kept of no sample has no entry
pub entries_of_kept-none : (t c : ℕ) (kept : CarrierInHand) → kept.count ≡ 0 → entries_of_kept t c kept ≡ []
entries_of_kept-none t c kept none = ap (entries_of_run t c kept.number kept.marks kept.samples.items) none

-- ---- the frame that was played

-- a frame n that is not of the first block is frame φ of the block after one
frame-split : (n k : ℕ) → 1 ≤ k → k ≤ n → n ≡ ((n - k) / k + 1) * k + (n - k) % k
frame-split n k some after = omega (arith, div-add-mod' (n - k) k)

module _ (p : Plan) (f : Flow) (h : ℕ) (records : List Record) (c : ℕ) (carrier : Carrier) (is : IsGoodCarrier p c carrier) (n : ℕ) (after : carrier.k ≤ n) where
  abbrev block_before : ℕ
  block_before = (n - carrier.k) / carrier.k

  abbrev phase_before : ℕ
  phase_before = (n - carrier.k) % carrier.k

  phase-small : phase_before < carrier.k
  phase-small = mod_below (n - carrier.k) carrier.k is.some_frames

  phase-same : n % carrier.k ≡ phase_before
  phase-same =
      ap (λ x. x % carrier.k) (frame-split n carrier.k is.some_frames after) ∙ mod-mul-add (block_before + 1) carrier.k phase_before phase-small

  start-same : block_start carrier.k n ≡ (block_before + 1) * carrier.k
  start-same = ap (block_start carrier.k) (frame-split n carrier.k is.some_frames after) ∙ block_start-at carrier.k (block_before + 1) phase_before phase-small

  played-same : containers_with p f h records carrier n ≡ played p f h records c carrier is block_before phase_before
  played-same =
      containers_with-range p f h records carrier n
      ∙ ap (λ from. map (container_of_frame p f h records carrier) (range_with_len from (n % carrier.k + 1))) start-same
      ∙ ap (λ phase. map (container_of_frame p f h records carrier) (range_with_len ((block_before + 1) * carrier.k) (phase + 1))) phase-same

  abbrev containers : List Container
  containers = containers_with p f h records carrier n

  length-same : length containers ≡ phase_before + 1
  length-same = length-containers_with p f h records carrier n ∙ ap (λ phase. phase + 1) phase-same

  left-before : samples_left (mapping_of carrier) (length containers - 1) ≡ phase_before * carrier.s / carrier.k
  left-before =
      let less : phase_before + 1 - 1 ≡ phase_before = omega arith in
      ap (λ count. samples_left (mapping_of carrier) (count - 1)) length-same ∙ ap (samples_left (mapping_of carrier)) less

  left-with : samples_left (mapping_of carrier) (length containers) ≡ (phase_before + 1) * carrier.s / carrier.k
  left-with = ap (samples_left (mapping_of carrier)) length-same

  module _ (kept : CarrierInHand) (keeps : KeepsLeaving (mapping_of carrier) containers kept) where
    kept-counted : phase_before * carrier.s / carrier.k + kept.count ≡ (phase_before + 1) * carrier.s / carrier.k
    kept-counted = ap (λ x. x + kept.count) (sym left-before) ∙ keeps.count ∙ left-with

    -- the samples that leave are those between two frames
    kept-between : samples_before p c (n - carrier.k) + kept.count ≡ samples_before p c (n - carrier.k + 1)
    kept-between =
        let here : n - carrier.k ≡ block_before * carrier.k + phase_before = sym (div-add-mod' (n - carrier.k) carrier.k) in
        let there : n - carrier.k + 1 ≡ block_before * carrier.k + (phase_before + 1) = omega arith in
        let first = ap (samples_before p c) here ∙ samples_before-block p c carrier is block_before phase_before in
        let next = ap (samples_before p c) there ∙ samples_before-block p c carrier is block_before (phase_before + 1) in
        omega (arith, first, next, kept-counted)

    kept-handed_in : (t : ℕ) → find (lists c) p.flows ≡ Some f → slice_get p.carriers c ≡ Some carrier → kept.number ≡ samples_before p c (n - carrier.k)
        → entries_of_kept t c kept ≡ entries_handed_in p h records t c carrier (n - carrier.k)
    kept-handed_in t found read numbered =
        let here : n - carrier.k ≡ block_before * carrier.k + phase_before = sym (div-add-mod' (n - carrier.k) carrier.k) in
        let there = played p f h records c carrier is block_before phase_before in
        let first = samples_left (mapping_of carrier) (length containers - 1) in
        run-of_block p h records c carrier is read f found t block_before phase_before phase-small kept.number kept.count kept.marks kept.samples.items
        kept-counted (numbered ∙ ap (samples_before p c) here)
        (λ i less d. keeps.read i less d ∙ ap (λ xs. sample_of_block (mapping_of carrier) xs (first + i)) played-same
        ∙ ap (λ x. sample_of_block (mapping_of carrier) there (x + i)) left-before)
        ∙ ap (entries_handed_in p h records t c carrier) (sym here)

-- ---- what is kept of a carrier after frame n was played at tick t, by the frame and the tick

none_by : (s k : ℕ) → 1 ≤ k → 0 * s / k ≡ 0
none_by s k some = let below = div_below (0 * s) k 1 some (omega arith) in omega arith

module _ (p : Plan) (h : ℕ) (records : List Record) (t c : ℕ) (carrier : Carrier) (good : IsGood p) (read : slice_get p.carriers c ≡ Some carrier) where
  is_good : IsGoodCarrier p c carrier
  is_good = good_carrier p c carrier good read

  -- the samples that leave are the entries
  pub entries_of_kept-leaving : (n : ℕ) (f : Flow) (kept : CarrierInHand) → t ≡ n + p.playout → find (lists c) p.flows ≡ Some f
      → carrier.k ≤ n → n < carrier.k + h
      → KeepsLeaving (mapping_of carrier) (containers_with p f h records carrier n) kept → kept.number ≡ samples_before p c (n - carrier.k)
      → entries_of_kept t c kept ≡ entries_of p h records t c
  entries_of_kept-leaving n f kept at found after inside keeps numbered =
      kept-handed_in p f h records c carrier is_good n after kept keeps t found read numbered
      ∙ sym (entries-inside p h records c carrier is_good read t (n - carrier.k) (omega arith) (omega arith))

  -- none leaves in the frames of the first block
  pub entries_of-before : (n : ℕ) → t ≡ n + p.playout → n < carrier.k → entries_of p h records t c ≡ []
  entries_of-before n at before = entries_of-early p h records c carrier is_good read t (omega arith)

  -- nor after the last sample of the run
  pub entries_of-after : (n : ℕ) → t ≡ n + p.playout → carrier.k + h ≤ n → entries_of p h records t c ≡ []
  entries_of-after n at after = entries_of-past p h records c carrier is_good read t (omega arith)

  -- nor before a frame is played
  pub entries_of-unplayed : t < p.playout → entries_of p h records t c ≡ []
  entries_of-unplayed early = entries_of-early p h records c carrier is_good read t (omega arith)

  -- ---- which samples leave next

  -- those that leave with frame n begin with the next of the carrier
  pub number-leaving : (n number : ℕ) → t ≡ n + p.playout → carrier.k ≤ n → n < carrier.k + h
      → number ≡ samples_before p c (min (t - delay_of p c) h) → number ≡ samples_before p c (n - carrier.k)
  number-leaving n number at after inside next =
      let delay = delay_of-carrier p c carrier is_good in
      let same : min (t - delay_of p c) h ≡ n - carrier.k = omega arith in
      next ∙ ap (samples_before p c) same

  -- and after them comes the next one
  pub next-leaving : (n : ℕ) (f : Flow) (kept : CarrierInHand) → t ≡ n + p.playout → carrier.k ≤ n → n < carrier.k + h
      → KeepsLeaving (mapping_of carrier) (containers_with p f h records carrier n) kept → kept.number ≡ samples_before p c (min (t - delay_of p c) h)
      → kept.number + kept.count ≡ samples_before p c (min (t + 1 - delay_of p c) h)
  next-leaving n f kept at after inside keeps next =
      let delay = delay_of-carrier p c carrier is_good in
      let same : min (t + 1 - delay_of p c) h ≡ n - carrier.k + 1 = omega arith in
      ap (λ x. x + kept.count) (number-leaving n kept.number at after inside next) ∙ kept-between p f h records c carrier is_good n after kept keeps
      ∙ ap (samples_before p c) (sym same)

  -- where none leaves, the next one stays the next
  pub next-before : t < p.playout + carrier.k → samples_before p c (min (t - delay_of p c) h) ≡ samples_before p c (min (t + 1 - delay_of p c) h)
  next-before early =
      let delay = delay_of-carrier p c carrier is_good in
      let same : min (t - delay_of p c) h ≡ min (t + 1 - delay_of p c) h = omega arith in
      ap (samples_before p c) same

  pub next-after : p.playout + carrier.k + h ≤ t → samples_before p c (min (t - delay_of p c) h) ≡ samples_before p c (min (t + 1 - delay_of p c) h)
  next-after past =
      let delay = delay_of-carrier p c carrier is_good in
      let same : min (t - delay_of p c) h ≡ min (t + 1 - delay_of p c) h = omega arith in
      ap (samples_before p c) same

  -- none has left before the first tick
  pub next-first : samples_before p c (min (0 - delay_of p c) h) ≡ 0
  next-first =
      let none : min (0 - delay_of p c) h ≡ 0 = omega arith in
      ap (samples_before p c) none ∙ samples_before-carrier p c carrier 0 is_good ∙ none_by carrier.s carrier.k is_good.some_frames
