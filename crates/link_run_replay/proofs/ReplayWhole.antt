-- What is printed as the lines of a capture come is what all its records together give.
use Rattle.std.proofs.Common.{◌≡◌, ◌⊎◌, inl, inr, ◌∙◌, ◌+◌, ◌-◌, ◌≤◌, ◌<◌, ◌++◌, ◌∷◌, [], ℕ, zero, suc, List, All, length, map, Bool, true, false, Option, Some, None, Result, Ok, Err, sym, ap, subst, refl, arith, append_assoc, append-nil}
use Rattle.std.specs.Prelude.{codes, bytes_eq, ◌&&◌, min, nat_le, nat_lt, if◌then◌else◌}
use Rattle.std.specs.List.{flat_map, range_with_len}
use Rattle.std.proofs.lemmas.Bool.{ltb-false}
use Rattle.std.proofs.lemmas.List.Elements.{All-cons}
use Rattle.carrier_plan.specs.declared.plan.Plan.{Plan}
use Rattle.plan_checker.specs.Rules.{IsGood}
use Rattle.plan_checker.specs.Run.{ticks_of_run}
use Rattle.link_base.specs.Record.{Record}
use Rattle.plan_checker.specs.WordSize.{word_size}
use Rattle.link_text.specs.Printed.{ended}
use Rattle.link_run_feed.specs.declared.reason.Reason.{Reason}
use Rattle.link_run_feed.specs.declared.reason.Reason.TheVariants.{Order, Many}
use Rattle.link_run_feed.specs.declared.status.Status.TheVariants.{Done}
use Rattle.link_run_feed.specs.Feed.{feed_answer, settled}
use Rattle.link_run_feed.specs.Leads.{LeadTo, IsLedBy, ended_text}
use Rattle.link_run_feed.proofs.Leading.{settled_leads, done_leads}
use Rattle.link_run_capture.specs.Capture.{most_records, header_of, record_of}
use Rattle.link_run_capture.specs.declared.header.Header.{Header}
use Rattle.link_run_replay.specs.EntryLines.{flow_lines}
use Rattle.link_run_replay.specs.RunText.{tick_text, text_between, text_below_tick}
use Rattle.link_run_replay.specs.Replayed.{Replayed, begun, begun_if, text_below, with_record, replay_by, replay_lines, replay_closing, replay_form}
use Rattle.link_run_replay.specs.WholeText.{latest_of, settled_text, replay_text, IsSettledText, IsWholeText, TextIsWhole}
use Rattle.link_run_replay.proofs.Channels.{tick_text-later}
use Rattle.link_run_replay.proofs.Playing.{between_none, between_split}

not_bad : {X : Type 0} (b : Bool) (reason : Reason) (read : Result X Reason) (x : X) → (if b then Err reason else read) ≡ Ok x → (b ≡ false) × (read ≡ Ok x)
not_bad true reason read x is = absurd (cc)
not_bad false reason read x is = (refl, is)

-- a good line is a record
record RecordCame (s next : Replayed) (text line : List ℕ) : Type 0 where
  pub arrived : Record
  pub reads : record_of line ≡ Ok arrived
  pub ordered : s.tick ≤ arrived.tick
  pub after : next ≡ with_record s arrived
  pub printed : text ≡ text_below s arrived.tick

came : (s next : Replayed) (text line : List ℕ) (read : Result Record Reason) → record_of line ≡ read → replay_by s read ≡ Ok (next, text) → RecordCame s next text line
came s next text line (Err reason) reads is = absurd (cc)
came s next text line (Ok r) reads is =
    let ordered = not_bad (nat_lt r.tick s.tick) Order _ (next, text) is in
    let few = not_bad (nat_le (most_records s.header.version) (length s.records)) Many _ (next, text) ordered.1 in
    let same : (with_record s r, text_below s r.tick) ≡ (next, text) = let ok = few.1 in cc in record {
      arrived = r;
      reads = reads;
      ordered = ltb-false r.tick s.tick ordered.0;
      after = sym (ap (λ (q : Replayed × List ℕ). q.0) same);
      printed = sym (ap (λ (q : Replayed × List ℕ). q.1) same);
    }

flat_map-ranges : {X : Type 0} (f g : ℕ → List X) (a n : ℕ) → ((t : ℕ) → a ≤ t → t < a + n → f t ≡ g t) → flat_map f (range_with_len a n) ≡ flat_map g (range_with_len a n)
flat_map-ranges f g a zero same = refl
flat_map-ranges f g a (suc n) same =
    let here : a < a + suc n = omega arith in
    let from : a ≤ a = omega arith in
    ap (λ xs. xs ++ flat_map f (range_with_len (a + 1) n)) (same a from here)
    ∙ ap (λ xs. g a ++ xs)
    (flat_map-ranges f g (a + 1) n (λ t above within.
    let below : t < a + suc n = omega (arith, within) in
    let on : a ≤ t = omega (arith, above) in same t on below))

module _ (p : Plan) (header : Header) (good : IsGood p) where
  abbrev h : ℕ
  h = header.run_ticks

  abbrev text_of : List Record → (from to : ℕ) → List ℕ
  text_of records from to = text_between p header.run_ticks header.announce records from to

  abbrev end : ℕ
  end = ticks_of_run p header.run_ticks

  -- later records change nothing of the text before them
  between_settled : (records later : List Record) (from to limit : ℕ) → All (λ (r : Record). limit ≤ r.tick) later → to ≤ limit
      → text_of (records ++ later) from to ≡ text_of records from to
  unfolding text_between
  between_settled records later from to limit after within =
      flat_map-ranges (tick_text p h header.announce (records ++ later)) (tick_text p h header.announce records) from (to - from)
      (λ t above below. tick_text-later p h records later good header.announce t (λ k d inside. let past = after k d inside in omega (arith, past, above, below, within)))

  -- what was printed from a state on
  record Went (s last : Replayed) (lines : List (List ℕ)) (text : List ℕ) : Type 0 where
    pub plan : last.plan ≡ p
    pub same_header : last.header ≡ header
    pub ordered : s.tick ≤ last.tick
    pub later : List Record
    pub reads : map record_of lines ≡ map Ok later
    pub latest : last.tick ≡ latest_of s.tick later
    pub records : last.records ≡ s.records ++ later
    pub after : All (λ (r : Record). s.tick ≤ r.tick) later
    pub printed : text ≡ text_of last.records (min s.tick end) (min last.tick end)

  went_none : (s : Replayed) → s.plan ≡ p → s.header ≡ header → Went s s [] []
  went_none s same_plan same_header =
      let here : min s.tick end ≤ min s.tick end = omega arith in record {
        plan = same_plan;
        same_header = same_header;
        ordered = omega arith;
        later = [];
        reads = refl;
        latest = refl;
        records = sym (append-nil s.records);
        after = λ k d within. absurd (omega arith);
        printed = sym (between_none p h header.announce s.records (min s.tick end) (min s.tick end) here);
      }

  went_on : (s last : Replayed) (r : Record) (line : List ℕ) (lines : List (List ℕ)) (more : List ℕ) → s.plan ≡ p → s.header ≡ header → record_of line ≡ Ok r → s.tick ≤ r.tick
      → Went (with_record s r) last lines more → Went s last (line ∷ lines) (text_below s r.tick ++ more)
  went_on s last r line lines more same_plan same_header reads ordered went =
      let all : last.records ≡ s.records ++ (r ∷ went.later) = went.records ∙ append_assoc s.records (r ∷ []) went.later in
      let same : r.tick ≤ r.tick = omega arith in
      let after : All (λ (q : Record). r.tick ≤ q.tick) (r ∷ went.later) = All-cons (λ (q : Record). r.tick ≤ q.tick) r went.later same went.after in
      let first : min s.tick end ≤ min r.tick end = omega arith in
      let second : min r.tick end ≤ min last.tick end = omega (arith, went.ordered) in
      let within : min r.tick end ≤ r.tick = omega arith in
      let this : text_below s r.tick ≡ text_of last.records (min s.tick end) (min r.tick end) =
      ap (λ p. text_between p s.header.run_ticks s.header.announce s.records (min s.tick (ticks_of_run p s.header.run_ticks)) (min r.tick (ticks_of_run p s.header.run_ticks))) same_plan
      ∙ ap (λ (header : Header). text_between p header.run_ticks header.announce s.records (min s.tick (ticks_of_run p header.run_ticks)) (min r.tick (ticks_of_run p header.run_ticks))) same_header
      ∙ sym (between_settled s.records (r ∷ went.later) (min s.tick end) (min r.tick end) r.tick after within)
      ∙ ap (λ records. text_of records (min s.tick end) (min r.tick end)) (sym all) in record {
        plan = went.plan;
        same_header = went.same_header;
        ordered = omega (arith, went.ordered);
        later = r ∷ went.later;
        reads = ap (λ x. x ∷ map record_of lines) reads ∙ ap (λ xs. Ok r ∷ xs) went.reads;
        latest = went.latest;
        records = all;
        after = λ k d inside. let past = after k d inside in omega (arith, past);
        printed =
            ap (λ text. text ++ more) this ∙ ap (λ text. text_of last.records (min s.tick end) (min r.tick end) ++ text) went.printed
            ∙ sym (between_split p h header.announce last.records (min s.tick end) (min r.tick end) (min last.tick end) first second);
      }

  leads : (lines : List (List ℕ)) (s last : Replayed) (text : List ℕ) → s.plan ≡ p → s.header ≡ header → LeadTo replay_lines s lines last text → Went s last lines text
  leads [] s last text same_plan same_header lead =
      subst (λ last. Went s last [] text) (sym lead.0) (subst (Went s s []) (sym lead.1) (went_none s same_plan same_header))
  leads (line ∷ lines) s last text same_plan same_header lead =
      let next = lead.0 in
      let one = came s next lead.1 line (record_of line) refl lead.3 in
      let rest = leads lines next last lead.2 (ap (λ (s : Replayed). s.plan) one.after ∙ same_plan) (ap (λ (s : Replayed). s.header) one.after ∙ same_header) lead.4 in
      subst (Went s last (line ∷ lines)) (ap (λ settled. settled ++ lead.2) (sym one.printed) ∙ sym lead.5)
      (went_on s last one.arrived line lines lead.2 same_plan same_header one.reads one.ordered (subst (λ next. Went next last lines lead.2) one.after rest))

  below_between : (records : List Record) (to : ℕ) → text_of records 0 to ≡ text_below_tick p h header.announce records to
  unfolding text_between
  below_between records to =
      let all : to - 0 ≡ to = omega arith in
      ap (λ n. flat_map (tick_text p h header.announce records) (range_with_len 0 n)) all

  module _ (last : Replayed) (lines : List (List ℕ)) (text : List ℕ) (went : Went (begun p header) last lines text) where
    before : text ≡ text_of last.records 0 (min last.tick end)
    before = let none : min 0 end ≡ 0 = omega arith in went.printed ∙ ap (λ from. text_of last.records from (min last.tick end)) none

    settles_all : text ≡ settled_text p header went.later
    settles_all =
        before ∙ below_between last.records (min last.tick end)
        ∙ ap (λ records. text_below_tick p h header.announce records (min last.tick end)) went.records
        ∙ ap (λ tick. text_below_tick p h header.announce went.later (min tick end)) went.latest

    left : replay_closing last ≡ (text_of last.records (min last.tick end) end ++ flow_lines p h last.records) ++ ended (codes "end")
    left =
        let full : min end end ≡ end = omega arith in
        ap (λ p. (text_between p last.header.run_ticks last.header.announce last.records (min last.tick (ticks_of_run p last.header.run_ticks)) (min (ticks_of_run p last.header.run_ticks) (ticks_of_run p last.header.run_ticks))
        ++ flow_lines p last.header.run_ticks last.records) ++ ended (codes "end")) went.plan
        ∙ ap (λ (header : Header). (text_between p header.run_ticks header.announce last.records (min last.tick (ticks_of_run p header.run_ticks)) (min (ticks_of_run p header.run_ticks) (ticks_of_run p header.run_ticks))
        ++ flow_lines p header.run_ticks last.records) ++ ended (codes "end")) went.same_header
        ∙ ap (λ to. (text_of last.records (min last.tick end) to ++ flow_lines p h last.records) ++ ended (codes "end")) full

    prints_all : text ++ replay_closing last ≡ replay_text p header went.later
    prints_all =
        let from = text_of last.records 0 (min last.tick end) in
        let rest = text_of last.records (min last.tick end) end in
        let first : 0 ≤ min last.tick end = omega arith in
        let second : min last.tick end ≤ end = omega arith in
        ap (λ text. text ++ replay_closing last) before ∙ ap (λ closing. from ++ closing) left
        ∙ sym (append_assoc from (rest ++ flow_lines p h last.records) (ended (codes "end")))
        ∙ ap (λ text. text ++ ended (codes "end")) (sym (append_assoc from rest (flow_lines p h last.records))
        ∙ ap (λ text. text ++ flow_lines p h last.records) (sym (between_split p h header.announce last.records 0 (min last.tick end) end first second)
        ∙ below_between last.records end))
        ∙ ap (replay_text p header) went.records

-- what a header opens
opened : (p : Plan) (found : Option Header) (first : Replayed) (front : List ℕ) → begun_if p found ≡ Some (first, front)
    → (header : Header) × (found ≡ Some header) × (first ≡ begun p header) × (front ≡ [])
opened p None first front is = absurd (cc)
opened p (Some header) first front is =
    let same : (begun p header, []) ≡ (first, front) = cc in
    (header, refl, sym (ap (λ (q : Replayed × List ℕ). q.0) same), sym (ap (λ (q : Replayed × List ℕ). q.1) same))

-- the last line settles nothing
abbrev nothing_by : Bool → List ℕ
nothing_by last = if last then [] else []

ended_by : (last : Bool) → nothing_by last ≡ []
ended_by true = refl
ended_by false = refl

no_ended : (p : Plan) (last : Replayed) (following : List (List ℕ)) (text : List ℕ) → text ++ ended_text replay_lines last following ≡ text
no_ended p last [] text = append-nil text
no_ended p last (line ∷ lines) text = ap (λ more. text ++ more) (ended_by (bytes_eq line (codes "end") && true)) ∙ append-nil text

module _ (p : Plan) (octets : List ℕ) (good : IsGood p) where
  by_led : (text : List ℕ) → IsLedBy (replay_form p) octets text → IsSettledText p octets text
  by_led text led =
      let opens = opened p (header_of (word_size p.option) led.header) led.first led.front led.opens in
      let went = leads p opens.0 good led.good (begun p opens.0) led.last led.settled refl refl (subst (λ s. LeadTo replay_lines s led.good led.last led.settled) opens.2 led.leads) in record {
        header = opens.0;
        records = went.later;
        begins = record { first = led.header; lines = led.good; following = led.following; whole = led.lines; says = opens.1; reads = went.reads };
        printed = led.whole ∙ no_ended p led.last led.following (led.front ++ led.settled) ∙ ap (λ front. front ++ led.settled) opens.3 ∙ settles_all p opens.0 good led.last led.good led.settled went;
      }

  settles : (settled (replay_form p) octets ≡ []) ⊎ IsSettledText p octets (settled (replay_form p) octets)
  settles = elim (settled_leads (replay_form p) octets) [
    | inl nothing ↦ inl nothing
    | inr led ↦ inr (by_led (settled (replay_form p) octets) led)
  ]

  done : (feed_answer (replay_form p) octets).status ≡ Done → IsWholeText p octets (feed_answer (replay_form p) octets).text
  done is =
      let read = done_leads (replay_form p) octets is in
      let opens = opened p (header_of (word_size p.option) read.header) read.first read.front read.opens in
      let went = leads p opens.0 good read.good (begun p opens.0) read.last read.settled refl refl (subst (λ s. LeadTo replay_lines s read.good read.last read.settled) opens.2 read.leads) in record {
        header = opens.0;
        records = went.later;
        capture = record { first = read.header; lines = read.good; whole = read.lines; after = read.nothing_after; says = opens.1; reads = went.reads };
        printed =
            read.whole ∙ ap (λ text. text ++ replay_closing read.last) (append-nil (read.front ++ read.settled))
            ∙ ap (λ front. (front ++ read.settled) ++ replay_closing read.last) opens.3
            ∙ prints_all p opens.0 good read.last read.good read.settled went;
      }

pub TextIsWhole-holds : TextIsWhole
TextIsWhole-holds = record {
  settles = λ p octets good. settles p octets good;
  done = λ p octets good is. done p octets good is;
}
