-- Records of later ticks change nothing of what was played.
use Rattle.std.proofs.Common.{◌≡◌, ℕ, zero, suc, ◌+◌, ◌-◌, ◌*◌, ◌/◌, ◌<◌, ◌≤◌, Bool, true, false, ◌&&◌, nat_le, nat_lt, cond, List, [], ◌∷◌, ◌++◌, length, find, All, Contains, Option, Some, None, Result, Ok, Err, slice_get, refl, sym, ap, ◌∙◌, arith, inl, inr}
use Rattle.std.specs.Int.{div_ceil}
use Rattle.std.specs.List.{cons_option}
use Rattle.std.specs.Option.{IfSome, is_some, option_map}
use Rattle.std.proofs.lemmas.Bool.{and_parts, cases_Bool, cases_lt, leb-true}
use Rattle.std.proofs.lemmas.List.Elements.{All-cons, All-head, All-nil, All-tail, All-weaker, filter_map-append}
use Rattle.std.proofs.lemmas.Nat.{div-add-mod', mul-le}
use Rattle.std.proofs.lemmas.Option.{same_Some}
use Rattle.carrier_plan.specs.declared.plan.Carrier.{Carrier}
use Rattle.carrier_plan.specs.declared.plan.Flow.{Flow}
use Rattle.carrier_plan.specs.declared.plan.Plan.{Plan}
use Rattle.link_base.specs.Record.{Record}
use Rattle.link_base.specs.Window.{last_frame}
use Rattle.plan_checker.specs.Flows.{lists}
use Rattle.plan_checker.specs.Packets.{run_packets}
use Rattle.plan_checker.specs.Place.{place_of}
use Rattle.plan_checker.specs.Rules.{IsGood}
use Rattle.plan_checker.specs.Run.{delay_of, longest_block, samples_before, samples_due, ticks_of_run}
use Rattle.playout_buffer.specs.Candidate.{IsCandidate}
use Rattle.playout_buffer.specs.Held.{part_of}
use Rattle.playout_buffer.specs.Received as buffer
use Rattle.playout_buffer.specs.Received.{Arrival}
use Rattle.playout_buffer.proofs.Numbers.{alike_from_number, later_by_numbers, wide_numbers}
use Rattle.playout_buffer.proofs.Settling.{received_is_settled}
use Rattle.roe_header.specs.Layout.{Fields, parsed}
use Rattle.roe_header.specs.declared.packet.NotRoe.{NotRoe}
use Rattle.sample_bits.specs.SampleOfBits.{sample_of_bits}
use Rattle.sample_bits.specs.declared.iq.RawIq.{RawIq}
use Rattle.sample_bits.proofs.RateLemmas.{div_ceil-least}
use Rattle.sample_bits.proofs.SampleOfBits.{sample_of_bits-same}
use Rattle.link_receiver.specs.Containers.{block_start, container_by, container_of_frame, containers_in_hand, control_by, control_in, control_of_frame}
use Rattle.link_receiver.specs.Laws.{CandidatesAreUnique, EntriesAreSettled, TakenIsSettled}
use Rattle.link_receiver.specs.Output.{bit_at_place, bit_if_received, entries_at, entries_before, entries_by, entries_handed_in, entries_of, entry_of, is_marked, value_in, value_of}
use Rattle.link_receiver.specs.Received.{is_missed, is_missed_by, part_of_frame, received, taken}
use Rattle.link_receiver.specs.Records.{arrival_by, arrival_of, arrivals_of, fits, window_of}
use Rattle.link_receiver.specs.Runs.{entries_of_before}
use Rattle.link_receiver.proofs.Entries.{the_entry}
use Rattle.link_receiver.proofs.Places.{IsGoodCarrier, delay_of-carrier, frame_in_time, good_carrier, samples_before-carrier}
use Rattle.link_receiver.proofs.Ranges.{count_by-range, flat_map-range, list_any-range, map-ranges}
use Rattle.link_receiver.proofs.Windows.{good_flow, window-meets}

-- ---- one candidate

not_later : (p : Plan) (f : Flow) (h t seq i j : ℕ) → IsGood p → Contains p.flows f
    → IsCandidate (window_of p f h) t seq i → IsCandidate (window_of p f h) t seq j → i ≤ j
not_later p f h t seq i j good here a b =
    elim (cases_lt j i) [
      | inr le ↦ le
      | inl less ↦
          let w = window_of p f 0 in
          let is = window-meets p f 0 good here (omega arith) in
          let later = later_by_numbers w is i j (alike_from_number w is i j (a.number ∙ sym b.number)) less in
          let wide = wide_numbers w is in
          absurd (omega (arith, a.arrives.0, b.arrives.1, later, wide))
    ]

pub unique_in_plan : CandidatesAreUnique
unique_in_plan p f h t seq i j good here a b =
    let le = not_later p f h t seq i j good here a b in
    let ge = not_later p f h t seq j i good here b a in
    omega arith

-- ---- arrivals of later records

after-if : (fit : Bool) (x : ℕ) (a : Arrival) → x < a.tick → IfSome (cond fit (Some a) None) (λ b. x < b.tick)
after-if true x a late = late
after-if false x a late = tt

after-by : (p : Plan) (f : Flow) (x t : ℕ) (read : Result Fields NotRoe) → x < t → IfSome (arrival_by p f t read) (λ a. x < a.tick)
after-by p f x t (Err reason) late = tt
after-by p f x t (Ok packet) late = after-if (fits p f packet) x (record { tick = t; seq = packet.seq; payload = packet.payload }) late

after-cons : (x : ℕ) (o : Option Arrival) (rest : List Arrival) → IfSome o (λ a. x < a.tick) → All (λ (a : Arrival). x < a.tick) rest → All (λ (a : Arrival). x < a.tick) (cons_option o rest)
after-cons x None rest here all = all
after-cons x (Some a) rest here all = All-cons (λ (b : Arrival). x < b.tick) a rest here all

arrivals-after : (p : Plan) (f : Flow) (x : ℕ) (later : List Record) → All (λ (r : Record). x < r.tick) later → All (λ (a : Arrival). x < a.tick) (arrivals_of p f later)
arrivals-after p f x [] late = All-nil (λ (a : Arrival). x < a.tick)
arrivals-after p f x (r ∷ later) late =
    after-cons x (arrival_of p f r) (arrivals_of p f later)
    (after-by p f x r.tick (parsed r.octets) (All-head (λ (b : Record). x < b.tick) r later late))
    (arrivals-after p f x later (All-tail (λ (b : Record). x < b.tick) r later late))

-- no record after the end of a packet's window changes what is received of it
pub received-later : (p : Plan) (f : Flow) (h i x : ℕ) (records later : List Record) → last_frame f.frames i + f.lmax ≤ x → All (λ (r : Record). x < r.tick) later
    → received p f h (records ++ later) i ≡ received p f h records i
received-later p f h i x records later closed late =
    ap (λ arrivals. buffer.received (window_of p f h) arrivals i) (filter_map-append (arrival_of p f) records later)
    ∙ received_is_settled (window_of p f h) i (arrivals_of p f records) (arrivals_of p f later)
    (All-weaker (λ (a : Arrival). x < a.tick) (λ (a : Arrival). last_frame f.frames i + f.lmax < a.tick) (λ a after. omega arith) (arrivals_of p f later) (arrivals-after p f x later late))

-- ---- frames that were played

-- the window of a frame's packet is closed when the frame is played
closed_by : (frames lmax playout n : ℕ) → 1 ≤ frames → frames - 1 + lmax ≤ playout → last_frame frames (n / frames) + lmax ≤ n + playout
closed_by frames lmax playout n some timed = let split = div-add-mod' n frames in omega (arith, split)

module _ (p : Plan) (f : Flow) (h : ℕ) (records later : List Record) (good : IsGood p) (here : Contains p.flows f) where
  pub part_of_frame-later : (n x : ℕ) → n + p.playout ≤ x → All (λ (r : Record). x < r.tick) later
      → part_of_frame p f h (records ++ later) n ≡ part_of_frame p f h records n
  unfolding part_of_frame
  part_of_frame-later n x played late =
      let flow = good_flow p f good here in
      let closed = closed_by f.frames f.lmax p.playout n flow.payload.some_frames flow.timed.0 in
      ap (option_map (part_of (window_of p f h) n)) (received-later p f h (n / f.frames) x records later (omega (arith, closed)) late)

  pub is_missed-later : (n x : ℕ) → n + p.playout ≤ x → All (λ (r : Record). x < r.tick) later
      → is_missed p f h (records ++ later) n ≡ is_missed p f h records n
  is_missed-later n x played late = ap (is_missed_by p n) (part_of_frame-later n x played late)

  pub container_of_frame-later : (carrier : Carrier) (n x : ℕ) → n + p.playout ≤ x → All (λ (r : Record). x < r.tick) later
      → container_of_frame p f h (records ++ later) carrier n ≡ container_of_frame p f h records carrier n
  unfolding container_of_frame
  container_of_frame-later carrier n x played late = ap (container_by p f carrier n) (part_of_frame-later n x played late)

  -- the containers in hand at a tick
  pub containers_in_hand-later : (carrier : Carrier) (t x : ℕ) → t ≤ x + 1 → All (λ (r : Record). x < r.tick) later
      → containers_in_hand p f h (records ++ later) carrier (t - p.playout) ≡ containers_in_hand p f h records carrier (t - p.playout)
  containers_in_hand-later carrier t x played late =
      let n = t - p.playout in
      let start = block_start carrier.k n in
      map-ranges (container_of_frame p f h (records ++ later) carrier) (container_of_frame p f h records carrier) start start (n - start)
      (λ r less. container_of_frame-later carrier (start + r) x (omega arith) late)

  -- where the records are of that tick or later
  pub containers_in_hand_at-later : (carrier : Carrier) (t : ℕ) → All (λ (r : Record). t ≤ r.tick) later
      → containers_in_hand p f h (records ++ later) carrier (t - p.playout) ≡ containers_in_hand p f h records carrier (t - p.playout)
  containers_in_hand_at-later carrier t late =
      let n = t - p.playout in
      let start = block_start carrier.k n in
      map-ranges (container_of_frame p f h (records ++ later) carrier) (container_of_frame p f h records carrier) start start (n - start)
      (λ r less. container_of_frame-later carrier (start + r) (start + r + p.playout) (omega arith)
      (All-weaker (λ (b : Record). t ≤ b.tick) (λ (b : Record). start + r + p.playout < b.tick) (λ b after. omega arith) later late))

  -- a sample whose bits stand in frames that were played
  module _ (carrier : Carrier) (j x : ℕ) (late : All (λ (r : Record). x < r.tick) later)
      (played : (b : ℕ) → b < 2 * carrier.m → (place_of carrier j b).frame + p.playout ≤ x) where
    marked-later : is_marked p f h (records ++ later) carrier j ≡ is_marked p f h records carrier j
    marked-later =
        list_any-range (λ b. is_missed p f h (records ++ later) (place_of carrier j b).frame) (λ b. is_missed p f h records (place_of carrier j b).frame)
        0 (2 * carrier.m) (λ b small. is_missed-later (place_of carrier j (0 + b)).frame x (played (0 + b) (omega arith)) late)

    abbrev sample_by : List Record → RawIq
    sample_by all = sample_of_bits carrier.m (λ b. bit_at_place p f h all (place_of carrier j b))

    sample-later : sample_by (records ++ later) ≡ sample_by records
    sample-later =
        sample_of_bits-same carrier.m (λ b. bit_at_place p f h (records ++ later) (place_of carrier j b)) (λ b. bit_at_place p f h records (place_of carrier j b))
        (λ b small. ap (bit_if_received p f (place_of carrier j b).bit) (part_of_frame-later (place_of carrier j b).frame x (played b small) late))

    value_in-later : value_in p (Some f) h (records ++ later) carrier j ≡ value_in p (Some f) h records carrier j
    value_in-later =
        ap (λ m. cond m None (Some (sample_by (records ++ later)))) marked-later
        ∙ ap (λ s. cond (is_marked p f h records carrier j) None (Some s)) sample-later

-- ---- the flow that a test finds

none-is_some : {X : Type 0} (x : X) → ◌≡◌ {A = Option X} None (Some x) → ⊥
none-is_some x e = cc

pub found-contained : {X : Type 0} (test : X → Bool) (xs : List X) (x : X) → find test xs ≡ Some x → Contains xs x
found-contained test [] x found = absurd (none-is_some x found)
found-contained test (y ∷ xs) x found =
    elim (cases_Bool (test y)) [
      | inl passes ↦
          let same : y ≡ x = same_Some y x (sym (ap (λ b. cond b (Some y) (find test xs)) passes) ∙ found) in
          (0, omega arith, same)
      | inr fails ↦
          let rest = found-contained test xs x (sym (ap (λ b. cond b (Some y) (find test xs)) fails) ∙ found) in
          (suc rest.0, omega (arith, rest.1), rest.2)
    ]

-- ---- entries

module _ (p : Plan) (h : ℕ) (records later : List Record) (good : IsGood p) where
  value-later : (c : ℕ) (carrier : Carrier) (j x : ℕ) (o : Option Flow) → find (lists c) p.flows ≡ o → All (λ (r : Record). x < r.tick) later
      → ((b : ℕ) → b < 2 * carrier.m → (place_of carrier j b).frame + p.playout ≤ x)
      → value_in p o h (records ++ later) carrier j ≡ value_in p o h records carrier j
  value-later c carrier j x None found late played = refl
  value-later c carrier j x (Some f) found late played =
      value_in-later p f h records later good (found-contained (lists c) p.flows f found) carrier j x late played

  value_of-later : (c : ℕ) (carrier : Carrier) (j x : ℕ) → All (λ (r : Record). x < r.tick) later
      → ((b : ℕ) → b < 2 * carrier.m → (place_of carrier j b).frame + p.playout ≤ x)
      → value_of p h (records ++ later) c carrier j ≡ value_of p h records c carrier j
  unfolding value_of
  value_of-later c carrier j x late played = value-later c carrier j x (find (lists c) p.flows) refl late played

  handed_in-later : (t c : ℕ) (carrier : Carrier) (n : ℕ) → IsGoodCarrier p c carrier → n + carrier.k + p.playout ≤ t → All (λ (r : Record). t < r.tick) later
      → entries_handed_in p h (records ++ later) t c carrier n ≡ entries_handed_in p h records t c carrier n
  handed_in-later t c carrier n is played late =
      let first = samples_before p c n in
      map-ranges (entry_of p h (records ++ later) t c carrier) (entry_of p h records t c carrier) first first (samples_due p c n)
      (λ r less.
      let next = samples_before-carrier p c carrier (n + 1) is in
      ap (the_entry t c (first + r))
      (value_of-later c carrier (first + r) t late (λ b small.
      let time = frame_in_time carrier n (first + r) b is.width is.rate is.some_frames (omega arith) small in
      omega arith)))

  entries-if : (t c : ℕ) (carrier : Carrier) (inside : Bool) → (nat_le (delay_of p c) t && nat_lt (t - delay_of p c) h) ≡ inside → IsGoodCarrier p c carrier
      → All (λ (r : Record). t < r.tick) later
      → cond inside (entries_handed_in p h (records ++ later) t c carrier (t - delay_of p c)) [] ≡ cond inside (entries_handed_in p h records t c carrier (t - delay_of p c)) []
  entries-if t c carrier false is_inside is late = refl
  entries-if t c carrier true is_inside is late =
      let after = leb-true (delay_of p c) t (and_parts (nat_le (delay_of p c) t) (nat_lt (t - delay_of p c) h) is_inside).0 in
      let delay = delay_of-carrier p c carrier is in
      handed_in-later t c carrier (t - delay_of p c) is (omega arith) late

  entries-by : (t c : ℕ) (o : Option Carrier) → slice_get p.carriers c ≡ o → All (λ (r : Record). t < r.tick) later
      → entries_by p h (records ++ later) t c o ≡ entries_by p h records t c o
  entries-by t c None read late = refl
  entries-by t c (Some carrier) read late =
      entries-if t c carrier (nat_le (delay_of p c) t && nat_lt (t - delay_of p c) h) refl (good_carrier p c carrier good read) late

  pub entries_of-later : (t c : ℕ) → All (λ (r : Record). t < r.tick) later → entries_of p h (records ++ later) t c ≡ entries_of p h records t c
  unfolding entries_of
  entries_of-later t c late = entries-by t c (slice_get p.carriers c) refl late

  pub entries_at-later : (t : ℕ) → All (λ (r : Record). t < r.tick) later → entries_at p h (records ++ later) t ≡ entries_at p h records t
  unfolding entries_at
  entries_at-later t late =
      flat_map-range (entries_of p h (records ++ later) t) (entries_of p h records t) 0 (length p.carriers) (λ r less. entries_of-later t (0 + r) late)

  -- the entries of the tick before t, where the records are of tick t or later
  pub entries_of_before-later : (t c : ℕ) → All (λ (r : Record). t ≤ r.tick) later → entries_of_before p h (records ++ later) t c ≡ entries_of_before p h records t c
  entries_of_before-later zero c late = refl
  entries_of_before-later (suc t) c late = entries_of-later t c (All-weaker (λ (r : Record). suc t ≤ r.tick) (λ (r : Record). t < r.tick) (λ r after. omega arith) later late)

  pub entries_before-later : (t : ℕ) → All (λ (r : Record). t ≤ r.tick) later → entries_before p h (records ++ later) t ≡ entries_before p h records t
  entries_before-later zero late = refl
  entries_before-later (suc t) late = entries_at-later t (All-weaker (λ (r : Record). suc t ≤ r.tick) (λ (r : Record). t < r.tick) (λ r after. omega arith) later late)

  -- the control word of a frame that was played
  control-by : (n x : ℕ) (o : Option Flow) → find (λ (f : Flow). f.control) p.flows ≡ o → n + p.playout ≤ x → All (λ (r : Record). x < r.tick) later
      → control_in p h (records ++ later) n o ≡ control_in p h records n o
  control-by n x None found played late = refl
  control-by n x (Some f) found played late =
      ap (control_by p n) (part_of_frame-later p f h records later good (found-contained (λ (g : Flow). g.control) p.flows f found) n x played late)

  pub control_of_frame-later : (n x : ℕ) → n + p.playout ≤ x → All (λ (r : Record). x < r.tick) later
      → control_of_frame p h (records ++ later) n ≡ control_of_frame p h records n
  unfolding control_of_frame
  control_of_frame-later n x played late = control-by n x (find (λ (f : Flow). f.control) p.flows) refl played late

  -- that of the frame that was played at the tick before t
  pub control_of_frame_before-later : (t : ℕ) → p.playout < t → All (λ (r : Record). t ≤ r.tick) later
      → control_of_frame p h (records ++ later) (t - 1 - p.playout) ≡ control_of_frame p h records (t - 1 - p.playout)
  control_of_frame_before-later t played late =
      control_of_frame-later (t - 1 - p.playout) (t - 1) (omega arith)
      (All-weaker (λ (r : Record). t ≤ r.tick) (λ (r : Record). t - 1 < r.tick) (λ r after. omega arith) later late)

-- one record
pub one_later : (t : ℕ) (r : Record) → t ≤ r.tick → All (λ (b : Record). t ≤ b.tick) (r ∷ [])
one_later t r late = All-cons (λ (b : Record). t ≤ b.tick) r [] late (All-nil (λ (b : Record). t ≤ b.tick))

-- a record of a later tick changes no container of a frame that was played
pub container_of_frame-with : (p : Plan) (f : Flow) (h : ℕ) (records : List Record) (r : Record) (carrier : Carrier) (n : ℕ) → IsGood p → Contains p.flows f
    → n + p.playout < r.tick → container_of_frame p f h (records ++ r ∷ []) carrier n ≡ container_of_frame p f h records carrier n
container_of_frame-with p f h records r carrier n good here late =
    container_of_frame-later p f h records (r ∷ []) good here carrier n (n + p.playout) (omega arith)
    (All-cons (λ (b : Record). n + p.playout < b.tick) r [] late (All-nil (λ (b : Record). n + p.playout < b.tick)))

pub EntriesAreSettled-holds : EntriesAreSettled
EntriesAreSettled-holds p h t records later good late = entries_at-later p h records later good t late

-- ---- the packets that are received

-- the window of a packet of the run is closed before the run ends
packet_closed : (frames n i : ℕ) → 1 ≤ frames → i < div_ceil n frames → last_frame frames i + 2 ≤ n + frames
packet_closed frames n i some less =
    let least = div_ceil-least n frames some in
    let product = mul-le (i + 1) frames (div_ceil n frames) frames (omega arith) (omega arith) in
    let first = mul-le 1 1 (i + 1) frames (omega arith) some in
    omega (arith, least, product, first)

pub TakenIsSettled-holds : TakenIsSettled
unfolding taken buffer.taken
TakenIsSettled-holds p f h records later good here late =
    let flow = good_flow p f good here in
    let n = h + longest_block p in
    let frames = flow.payload.some_frames in
    let timed = flow.timed.0 in
    count_by-range (λ i. is_some (received p f h (records ++ later) i)) (λ i. is_some (received p f h records i)) 0 (run_packets p f h) (λ r less.
    let closed = packet_closed f.frames n (0 + r) frames (omega arith) in
    ap is_some (received-later p f h (0 + r) (n + p.playout - 1) records later (omega (arith, closed))
    (All-weaker (λ (b : Record). ticks_of_run p h ≤ b.tick) (λ (b : Record). n + p.playout - 1 < b.tick) (λ b after. omega (arith, closed)) later late)))
