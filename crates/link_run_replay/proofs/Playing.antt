-- The text of some ticks, one tick after another, and the lines of samples and flows.
use Rattle.std.proofs.Common.{inl, inr, ◌≡◌, ◌∙◌, ◌+◌, ◌-◌, ◌≤◌, ◌<◌, ◌==◌, if◌then◌else◌, ◌++◌, ◌∷◌, [], ℕ, List, length, Option, Some, None, sym, ap, subst, refl, arith, pos, add-one, append_assoc, append-nil}
use Rattle.std.specs.Prelude.{slice_get}
use Rattle.std.specs.List.{flat_map, range_with_len}
use Rattle.std.specs.Int.{bit_at}
use Rattle.std.proofs.lemmas.List.Concat.{flat_map-append}
use Rattle.std.proofs.lemmas.List.Folds.{flat_map-map}
use Rattle.std.proofs.lemmas.Bool.{cases_lt}
use Rattle.std.proofs.lemmas.Option.{slice_get_cases, slice_get-get_or}
use Rattle.link_base.specs.Sink.{Taken, AppendsFront}
use Rattle.carrier_plan.specs.declared.plan.Flow.{Flow}
use Rattle.carrier_plan.specs.declared.plan.Plan.{Plan}
use Rattle.plan_checker.specs.Packets.{run_packets}
use Rattle.link_receiver.specs.Output.{entries_at, entries_of}
use Rattle.link_receiver.specs.Runs.{entries_of_before, entries_of_run, entry_of_run}
use Rattle.link_receiver.specs.Received.{taken}
use Rattle.link_base.specs.Record.{Record}
use Rattle.link_text.specs.Gathered.{Gathers, BreaksOff}
use Rattle.link_run_replay.specs.EntryLines.{entry_lines, entry_line, flow_line, line_of_flow}
use Rattle.link_run_replay.specs.RunText.{tick_text, text_between}
use Rattle.control_words.specs.declared.announce.Announce.{Announce}
use Rattle.link_run_entries.specs.SampleLines.{run_lines, sample_line, value_of_run}
use Rattle.sample_bits.specs.declared.iq.RawIq.{RawIq}
use Rattle.link_text.proofs.GatheredLines.{range_split}
use Rattle.link_receiver.proofs.Ranges.{flat_map-range}
use Rattle.link_text.proofs.Gathering.{gathers_none, gathers_then, breaks_then, front_of_more}

module _ (p : Plan) (h : ℕ) (a : Announce) (records : List Record) where
  pub between_none : (from to : ℕ) → to ≤ from → text_between p h a records from to ≡ []
  unfolding text_between
  between_none from to past =
      let none : to - from ≡ 0 = omega arith in
      ap (λ n. flat_map (tick_text p h a records) (range_with_len from n)) none

  -- the ticks as far as one in the middle, and those from there on
  pub between_split : (from mid to : ℕ) → from ≤ mid → mid ≤ to → text_between p h a records from to ≡ text_between p h a records from mid ++ text_between p h a records mid to
  unfolding text_between
  between_split from mid to first second =
      let all : to - from ≡ (mid - from) + (to - mid) = omega arith in
      let there : from + (mid - from) ≡ mid = omega arith in
      ap (λ n. flat_map (tick_text p h a records) (range_with_len from n)) all
      ∙ ap (flat_map (tick_text p h a records)) (range_split from (mid - from) (to - mid) ∙ ap (λ b. range_with_len from (mid - from) ++ range_with_len b (to - mid)) there)
      ∙ flat_map-append (tick_text p h a records) (range_with_len from (mid - from)) (range_with_len mid (to - mid))

  pub between_one : (tick next : ℕ) → next ≡ tick + 1 → text_between p h a records tick next ≡ tick_text p h a records tick
  unfolding text_between
  between_one tick next is =
      let one : next - tick ≡ 1 = omega arith in
      ap (λ n. flat_map (tick_text p h a records) (range_with_len tick n)) one ∙ append-nil (tick_text p h a records tick)

  -- no tick was played yet
  pub gathers_begun : (tick : ℕ) (hand : List ℕ) (sink : Taken) → Gathers (text_between p h a records tick tick) hand sink hand sink
  gathers_begun tick hand sink =
      let past : tick ≤ tick = omega arith in
      subst (λ text. Gathers text hand sink hand sink) (sym (between_none tick tick past)) (gathers_none hand sink)

  -- the text of a tick more was gathered
  pub gathers_tick : (from tick next : ℕ) (hand hand1 hand2 : List ℕ) (old mid new : Taken) → from ≤ tick → next ≡ tick + 1
      → Gathers (text_between p h a records from tick) hand old hand1 mid → Gathers (tick_text p h a records tick) hand1 mid hand2 new
      → Gathers (text_between p h a records from next) hand old hand2 new
  gathers_tick from tick next hand hand1 hand2 old mid new behind is first second =
      subst (λ text. Gathers text hand old hand2 new)
      (ap (λ text. text_between p h a records from tick ++ text) (sym (between_one tick next is)) ∙ sym (between_split from tick next behind (omega arith)))
      (gathers_then _ _ hand hand1 hand2 old mid new first second)

  -- a write failed at a tick
  pub breaks_tick : (from tick to : ℕ) (hand hand1 : List ℕ) (old mid new : Taken) → from ≤ tick → tick < to
      → Gathers (text_between p h a records from tick) hand old hand1 mid → BreaksOff (tick_text p h a records tick) hand1 mid new
      → BreaksOff (text_between p h a records from to) hand old new
  breaks_tick from tick to hand hand1 old mid new behind within first front =
      let this = tick_text p h a records tick in
      let rest = text_between p h a records (tick + 1) to in
      let split : text_between p h a records tick to ≡ this ++ rest =
      between_split tick (tick + 1) to (omega arith) (omega arith) ∙ ap (λ text. text ++ rest) (between_one tick (tick + 1) refl) in
      subst (λ text. BreaksOff text hand old new)
      (ap (λ text. text_between p h a records from tick ++ text) (sym split) ∙ sym (between_split from tick to behind (omega arith)))
      (breaks_then _ (this ++ rest) hand hand1 old mid new first
      (subst (λ text. AppendsFront text mid new) (append_assoc hand1 this rest) (front_of_more (hand1 ++ this) rest mid new front)))

  -- where play ended
  pub gathers_to : (from now to : ℕ) (hand hand1 : List ℕ) (old new : Taken) → (from ≤ to → now ≡ to) → (to ≤ from → now ≡ from)
      → Gathers (text_between p h a records from now) hand old hand1 new → Gathers (text_between p h a records from to) hand old hand1 new
  gathers_to from now to hand hand1 old new ahead stays gathers = elim (cases_lt from to) [
    | inl below ↦ subst (λ n. Gathers (text_between p h a records from n) hand old hand1 new) (ahead (omega arith)) gathers
    | inr beyond ↦
        let here : now ≤ from = omega (arith, stays beyond) in
        subst (λ text. Gathers text hand old hand1 new) (between_none from now here ∙ sym (between_none from to beyond)) gathers
  ]

-- the items of lists, one list after another
flat_map-lists : {X Y Z : Type 0} (f : Y → List Z) (g : X → List Y) (xs : List X) → flat_map f (flat_map g xs) ≡ flat_map (λ x. flat_map f (g x)) xs
flat_map-lists f g [] = refl
flat_map-lists f g (x ∷ xs) = flat_map-append f (g x) (flat_map g xs) ∙ ap (λ ys. flat_map f (g x) ++ ys) (flat_map-lists f g xs)

-- the lines of a tick, carrier by carrier
pub lines_at : (p : Plan) (h : ℕ) (records : List Record) (tick : ℕ)
    → entry_lines (entries_at p h records tick) ≡ flat_map (λ c. entry_lines (entries_of p h records tick c)) (range_with_len 0 (length p.carriers))
unfolding entries_at
lines_at p h records tick = flat_map-lists entry_line (entries_of p h records tick) (range_with_len 0 (length p.carriers))

-- the lines of the samples of a carrier, by their entries
run_printed : (tick c number marks : ℕ) (samples : List RawIq)
    → run_lines tick c number marks samples (length samples) ≡ entry_lines (entries_of_run tick c number marks samples (length samples))
unfolding run_lines
run_printed tick c number marks samples =
    let nothing : RawIq = record { i = pos 0; q = pos 0 } in
    flat_map-range (λ i. sample_line tick c (number + i) (value_of_run marks samples i)) (λ i. entry_line (entry_of_run tick c number marks samples i)) 0 (length samples)
    (λ i less. let here : 0 + i < length samples = omega arith in
    ap (λ v. sample_line tick c (number + (0 + i)) (if bit_at marks (0 + i) == 1 then None else v)) (slice_get-get_or samples (0 + i) nothing here))
    ∙ sym (flat_map-map entry_line (entry_of_run tick c number marks samples) (range_with_len 0 (length samples)))

-- the lines of the samples of a carrier that left at the tick before the present one
pub carrier_printed : (p : Plan) (h : ℕ) (records : List Record) (now tick c number marks : ℕ) (samples : List RawIq) → now ≡ tick + 1
    → entries_of_run (now - 1) c number marks samples (length samples) ≡ entries_of_before p h records now c
    → run_lines tick c number marks samples (length samples) ≡ entry_lines (entries_of p h records tick c)
carrier_printed p h records now tick c number marks samples next lent =
    let before : tick ≡ now - 1 = omega arith in
    run_printed tick c number marks samples
    ∙ ap (λ t. entry_lines (entries_of_run t c number marks samples (length samples))) before
    ∙ ap entry_lines (lent ∙ ap (λ t. entries_of_before p h records t c) (next ∙ add-one tick))

-- the line of a flow by what was counted of it
module _ (p : Plan) (h : ℕ) (records : List Record) (place got packets : ℕ) where
  flow_by : (found : Option Flow) → slice_get p.flows place ≡ found → place < length p.flows
      → ((flow : Flow) → slice_get p.flows place ≡ Some flow → (got ≡ taken p flow h records) × (packets ≡ run_packets p flow h))
      → flow_line place got packets ≡ line_of_flow p h records place found
  flow_by None is within counts = elim (slice_get_cases p.flows place).1 [
    | inl some ↦ absurd (let no = sym is ∙ some.2 in cc)
    | inr past ↦ absurd (omega (arith, past.0))
  ]
  flow_by (Some flow) is within counts =
      let both = counts flow is in ap (λ got. flow_line place got packets) both.0 ∙ ap (flow_line place (taken p flow h records)) both.1

  pub flow_counted : place < length p.flows
      → ((flow : Flow) → slice_get p.flows place ≡ Some flow → (got ≡ taken p flow h records) × (packets ≡ run_packets p flow h))
      → flow_line place got packets ≡ line_of_flow p h records place (slice_get p.flows place)
  flow_counted within counts = flow_by (slice_get p.flows place) refl within counts
