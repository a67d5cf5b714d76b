-- What a replay keeps, as its records come.
use Rattle.std.proofs.Common.{inl, inr, IsTrue, ◌≡◌, ◌∙◌, ◌+◌, ◌-◌, ◌≤◌, ◌<◌, ◌++◌, ◌∷◌, [], ℕ, List, All, length, Option, Some, None, Result, Ok, Err, OnErr, sym, ap, subst, refl, arith, append_assoc, append-nil}
use Rattle.std.specs.Prelude.{Bool, min, nat_le, nat_lt, slice_get, Contains}
use Rattle.std.specs.List.{flat_map, range_with_len}
use Rattle.std.proofs.lemmas.Bool.{cases_lt, cond-true, cond-false, lt-ltb, le-ltb, le-leb, lt-leb}
use Rattle.std.proofs.lemmas.List.{length_push}
use Rattle.std.proofs.lemmas.List.Elements.{All-push}
use Rattle.std.proofs.lemmas.Option.{slice_get_within, get_or_from_slice_get}
use Rattle.link_base.specs.Sink.{Taken, AppendsFront}
use Rattle.carrier_plan.specs.declared.plan.Flow.{Flow}
use Rattle.carrier_plan.specs.declared.plan.Plan.{Plan}
use Rattle.plan_checker.specs.Packets.{run_packets}
use Rattle.plan_checker.specs.Rules.{IsGood}
use Rattle.plan_checker.specs.Run.{ticks_of_run}
use Rattle.link_receiver.specs.Laws.{TakenIsSettled}
use Rattle.link_base.specs.Record.{Record}
use Rattle.link_receiver.specs.Sessions.{SessionView, StandsFor}
use Rattle.link_run_feed.specs.declared.reason.Reason.TheVariants.{Order, Many}
use Rattle.link_run_capture.specs.Capture.{most_records, record_of}
use Rattle.link_text.specs.Gathered.{Gathers, BreaksOff}
use Rattle.control_words.specs.declared.announce.Announce.{Announce}
use Rattle.link_receiver.proofs.Settled.{one_later}
use Rattle.link_run_management.specs.Reads.{ReaderView}
use Rattle.link_run_replay.specs.EntryLines.{flow_line, flow_lines, line_of_flow}
use Rattle.link_run_replay.specs.RunText.{text_between}
use Rattle.link_run_replay.specs.Replayed.{Replayed, last_tick, text_below, with_record, replay_by}
use Rattle.link_run_replay.specs.CaptureRun.{IsPlayedTo, KeepsRun, KeepsChannels, PlaysRun, IsNext}
use Rattle.link_text.proofs.Gathering.{gathers_put, gathers_then, breaks_then, front_of_more}
use Rattle.link_run_replay.proofs.Channels.{channels-later}
use Rattle.link_run_replay.proofs.Playing.{between_none}

-- the text from where a run stands on is the same with the records that came behind it
pub text_same : (session : SessionView) (management : Option ReaderView) (s : Replayed) (to : ℕ) → to ≤ last_tick s → (played : IsPlayedTo session management s.tick s)
    → text_between session.plan session.frames s.header.announce played.early session.tick to
    ≡ text_between s.plan s.header.run_ticks s.header.announce s.records (min s.tick (last_tick s)) to
text_same session management s to within played =
    let a = s.header.announce in
    let h = s.header.run_ticks in
    ap (λ p. text_between p session.frames a played.early session.tick to) played.plan
    ∙ ap (λ h. text_between s.plan h a played.early session.tick to) played.run
    ∙ ap (λ t. text_between s.plan h a played.early t to) played.now
    ∙ (elim (cases_lt s.tick (last_tick s)) [
      | inl early ↦
          let all : s.records ≡ played.early = played.records ∙ ap (λ late. played.early ++ late) (played.none_late early) ∙ append-nil played.early in
          ap (λ records. text_between s.plan h a records (min s.tick (last_tick s)) to) (sym all)
      | inr late ↦
          let past : to ≤ min s.tick (last_tick s) = omega arith in
          between_none s.plan h a played.early (min s.tick (last_tick s)) to past ∙ sym (between_none s.plan h a s.records (min s.tick (last_tick s)) to past)
    ])

-- a record that may come next
next_step : (s : Replayed) (line : List ℕ) (r : Record) → record_of line ≡ Ok r → s.tick ≤ r.tick → length s.records < most_records s.header.version
    → replay_by s (record_of line) ≡ Ok (with_record s r, text_below s r.tick)
next_step s line r is ordered few =
    ap (replay_by s) is
    ∙ cond-false (nat_lt r.tick s.tick) _ _ (le-ltb r.tick s.tick ordered) ∙ cond-false (nat_le (most_records s.header.version) (length s.records)) _ _ (lt-leb (most_records s.header.version) (length s.records) few)

pub step_of_order : (s : Replayed) (line : List ℕ) (r : Record) → record_of line ≡ Ok r → r.tick < s.tick → replay_by s (record_of line) ≡ Err Order
step_of_order s line r is before = ap (replay_by s) is ∙ cond-true (nat_lt r.tick s.tick) _ _ (lt-ltb r.tick s.tick before)

pub step_of_many : (s : Replayed) (line : List ℕ) (r : Record) → record_of line ≡ Ok r → s.tick ≤ r.tick → most_records s.header.version ≤ length s.records → replay_by s (record_of line) ≡ Err Many
step_of_many s line r is ordered full =
    ap (replay_by s) is ∙ cond-false (nat_lt r.tick s.tick) _ _ (le-ltb r.tick s.tick ordered) ∙ cond-true (nat_le (most_records s.header.version) (length s.records)) _ _ (le-leb (most_records s.header.version) (length s.records) full)

-- a record at a tick of the run came
pub taken_early : (session after : SessionView) (management after_management : Option ReaderView) (s : Replayed) (r : Record) (lines_left lines_left' : ℕ)
    → IsPlayedTo session management r.tick s → s.tick ≤ r.tick → r.tick < last_tick s
    → after.plan ≡ session.plan → after.frames ≡ session.frames → after.tick ≡ session.tick → after_management ≡ management
    → ((records : List Record) → StandsFor session records → StandsFor after (records ++ record { tick = session.tick; octets = r.octets } ∷ []))
    → lines_left' + 1 ≡ lines_left → lines_left + length s.records ≡ most_records s.header.version
    → KeepsRun after after_management r.tick lines_left' (with_record s r)
taken_early session after management after_management s r lines_left lines_left' played ordered within same_plan same_frames same_tick same_management stands less few =
    let here : session.tick ≡ r.tick = omega (arith, played.now) in
    let none : played.late ≡ [] = played.none_late (omega arith) in
    let all : s.records ≡ played.early = played.records ∙ ap (λ late. played.early ++ late) none ∙ append-nil played.early in
    let good : IsGood session.plan = subst IsGood (sym played.plan) played.good in
    let n = session.tick - session.plan.playout in
    let arrived : Record = record { tick = session.tick; octets = r.octets } in
    let few_frames : n ≤ session.tick - session.plan.playout = omega arith in
    let there : session.tick ≤ session.tick = omega arith in
    let kept : KeepsChannels session.plan session.frames s.header.announce (played.early ++ arrived ∷ []) n management =
    channels-later session.plan session.frames played.early (arrived ∷ []) good s.header.announce session.tick n management few_frames (one_later session.tick arrived there) played.plays.channels in
    let plays : PlaysRun after after_management s.header.announce (played.early ++ arrived ∷ []) = record {
      samples = stands played.early played.plays.samples;
      channels =
          subst (λ m. KeepsChannels after.plan after.frames s.header.announce (played.early ++ arrived ∷ []) (after.tick - after.plan.playout) m) (sym same_management)
          (subst (λ t. KeepsChannels after.plan after.frames s.header.announce (played.early ++ arrived ∷ []) (t - after.plan.playout) management) (sym same_tick)
          (subst (λ h. KeepsChannels after.plan h s.header.announce (played.early ++ arrived ∷ []) (session.tick - after.plan.playout) management) (sym same_frames)
          (subst (λ (p : Plan). KeepsChannels p session.frames s.header.announce (played.early ++ arrived ∷ []) (session.tick - p.playout) management) (sym same_plan) kept)));
    } in record {
      played = record {
        plan = same_plan ∙ played.plan;
        run = same_frames ∙ played.run;
        good = played.good;
        now = same_tick ∙ played.now;
        early = played.early ++ r ∷ [];
        late = [];
        records = ap (λ records. records ++ r ∷ []) all ∙ sym (append-nil (played.early ++ r ∷ []));
        plays = subst (λ (t : ℕ). PlaysRun after after_management s.header.announce (played.early ++ record { tick = t; octets = r.octets } ∷ [])) here plays;
        after_run = λ k d past. absurd (omega arith);
        none_late = λ before. refl;
      };
      last = refl;
      left = omega (arith, length_push s.records r);
    }

-- a record after the run came
pub taken_late : (session : SessionView) (management : Option ReaderView) (s : Replayed) (r : Record) (lines_left lines_left' : ℕ)
    → IsPlayedTo session management r.tick s → last_tick s ≤ r.tick
    → lines_left' + 1 ≡ lines_left → lines_left + length s.records ≡ most_records s.header.version
    → KeepsRun session management r.tick lines_left' (with_record s r)
taken_late session management s r lines_left lines_left' played beyond less few = record {
  played = record {
    plan = played.plan;
    run = played.run;
    good = played.good;
    now = played.now;
    early = played.early;
    late = played.late ++ r ∷ [];
    records = ap (λ records. records ++ r ∷ []) played.records ∙ append_assoc played.early played.late (r ∷ []);
    plays = played.plays;
    after_run = All-push (λ (r : Record). last_tick s ≤ r.tick) played.late r played.after_run beyond;
    none_late = λ before. absurd (omega arith);
  };
  last = refl;
  left = omega (arith, length_push s.records r);
}

-- play went on to a tick
pub played_to : (session after : SessionView) (management after_management : Option ReaderView) (s : Replayed) (tick : ℕ) → IsPlayedTo session management s.tick s → s.tick ≤ tick
    → after.plan ≡ session.plan → after.frames ≡ session.frames → after.tick ≡ min tick (last_tick s)
    → ((a : Announce) (records : List Record) → PlaysRun session management a records → PlaysRun after after_management a records) → IsPlayedTo after after_management tick s
played_to session after management after_management s tick played ordered same_plan same_frames now plays = record {
  plan = same_plan ∙ played.plan;
  run = same_frames ∙ played.run;
  good = played.good;
  now = now;
  early = played.early;
  late = played.late;
  records = played.records;
  plays = plays s.header.announce played.early played.plays;
  after_run = played.after_run;
  none_late = played.none_late;
}

contains_at : {X : Type 0} (xs : List X) (k : ℕ) (x : X) → slice_get xs k ≡ Some x → Contains xs x
contains_at xs k x is = (k, slice_get_within xs k x is, get_or_from_slice_get xs k x x is)

flat_map-same : (f g : ℕ → List ℕ) (xs : List ℕ) → ((x : ℕ) → f x ≡ g x) → flat_map f xs ≡ flat_map g xs
flat_map-same f g [] same = refl
flat_map-same f g (x ∷ xs) same = ap (λ a. a ++ flat_map f xs) (same x) ∙ ap (λ b. g x ++ b) (flat_map-same f g xs same)

-- the lines of the flows are the same with the records behind the run
module _ (settled : TakenIsSettled) (p : Plan) (h : ℕ) (early late : List Record) (good : IsGood p)
    (after_run : All (λ (r : Record). ticks_of_run p h ≤ r.tick) late) where
  flow_same : (place : ℕ) (found : Option Flow) → slice_get p.flows place ≡ found → line_of_flow p h early place found ≡ line_of_flow p h (early ++ late) place found
  flow_same place None is = refl
  flow_same place (Some flow) is =
      ap (λ got. flow_line place got (run_packets p flow h)) (sym (settled p flow h early late good (contains_at p.flows place flow is) after_run))

  flows_same : flow_lines p h early ≡ flow_lines p h (early ++ late)
  flows_same =
      flat_map-same (λ place. line_of_flow p h early place (slice_get p.flows place)) (λ place. line_of_flow p h (early ++ late) place (slice_get p.flows place))
      (range_with_len 0 (length p.flows)) (λ place. flow_same place (slice_get p.flows place) refl)

pub closing_flows : TakenIsSettled → (session : SessionView) (management : Option ReaderView) (s : Replayed) (tick : ℕ) → (played : IsPlayedTo session management tick s)
    → flow_lines session.plan session.frames played.early ≡ flow_lines s.plan s.header.run_ticks s.records
closing_flows settled session management s tick played =
    ap (λ p. flow_lines p session.frames played.early) played.plan ∙ ap (λ h. flow_lines s.plan h played.early) played.run
    ∙ flows_same settled s.plan s.header.run_ticks played.early played.late played.good played.after_run ∙ ap (flow_lines s.plan s.header.run_ticks) (sym played.records)

-- the tick at which the run ends
pub last_same : (session : SessionView) (management : Option ReaderView) (s : Replayed) (tick ticks : ℕ) → IsPlayedTo session management tick s
    → ticks ≡ ticks_of_run session.plan session.frames → ticks ≡ last_tick s
last_same session management s tick ticks played is =
    is ∙ ap (λ p. ticks_of_run p session.frames) played.plan ∙ ap (ticks_of_run s.plan) played.run

-- A record that may come next is read, and the ticks before its own are played.
module _ (session : SessionView) (management : Option ReaderView) (s : Replayed) (latest lines_left : ℕ) (replay : KeepsRun session management latest lines_left s) (line octets : List ℕ) (tick : ℕ)
    (next : IsNext latest lines_left line tick octets) where
  pub next_is : replay_by s (record_of line) ≡ Ok (with_record s (record { tick = tick; octets = octets }), text_below s tick)
  next_is = next_step s line (record { tick = tick; octets = octets }) next.reads (omega (arith, replay.last, next.ordered)) (omega (arith, replay.left, next.some_left))

  pub next_ordered : s.tick ≤ tick
  next_ordered = omega (arith, replay.last, next.ordered)

  pub next_text : (ticks end : ℕ) → ticks ≡ ticks_of_run session.plan session.frames → end ≡ min tick ticks
      → text_between session.plan session.frames s.header.announce replay.played.early session.tick end ≡ text_below s tick
  next_text ticks end is end_is =
      let last = last_same session management s s.tick ticks replay.played is in
      let to : end ≡ min tick (last_tick s) = end_is ∙ ap (min tick) last in
      let within : min tick (last_tick s) ≤ last_tick s = omega arith in
      ap (λ t. text_between session.plan session.frames s.header.announce replay.played.early session.tick t) to
      ∙ text_same session management s (min tick (last_tick s)) within replay.played

  pub next_played : (after : SessionView) (after_management : Option ReaderView) (ticks end : ℕ) → ticks ≡ ticks_of_run session.plan session.frames → end ≡ min tick ticks
      → after.plan ≡ session.plan → after.frames ≡ session.frames → (session.tick ≤ end → after.tick ≡ end)
      → ((a : Announce) (records : List Record) → PlaysRun session management a records → PlaysRun after after_management a records) → IsPlayedTo after after_management tick s
  next_played after after_management ticks end is end_is same_plan same_frames at plays =
      let last = last_same session management s s.tick ticks replay.played is in
      let to : end ≡ min tick (last_tick s) = end_is ∙ ap (min tick) last in
      let ahead : session.tick ≤ end = omega (arith, replay.played.now, next_ordered) in
      played_to session after management after_management s tick replay.played next_ordered same_plan same_frames (at ahead ∙ to) plays

-- What is left is written: the text of the ticks, the flows, and the last line.
pub closing_text : (session : SessionView) (management : Option ReaderView) (s : Replayed) (ticks : ℕ) → (played : IsPlayedTo session management s.tick s)
    → ticks ≡ ticks_of_run session.plan session.frames
    → text_between session.plan session.frames s.header.announce played.early session.tick ticks ≡ text_below s (last_tick s)
closing_text session management s ticks played is =
    let last = last_same session management s s.tick ticks played is in
    let to : ticks ≡ min (last_tick s) (last_tick s) = omega (arith, last) in
    let within : min (last_tick s) (last_tick s) ≤ last_tick s = omega arith in
    ap (λ t. text_between session.plan session.frames s.header.announce played.early session.tick t) to
    ∙ text_same session management s (min (last_tick s) (last_tick s)) within played

pub played_on : (session after : SessionView) (management after_management : Option ReaderView) (s : Replayed) (ticks : ℕ) → IsPlayedTo session management s.tick s
    → ticks ≡ ticks_of_run session.plan session.frames
    → after.plan ≡ session.plan → after.frames ≡ session.frames → (session.tick ≤ ticks → after.tick ≡ ticks)
    → ((a : Announce) (records : List Record) → PlaysRun session management a records → PlaysRun after after_management a records) → IsPlayedTo after after_management (last_tick s) s
played_on session after management after_management s ticks played is same_plan same_frames at plays =
    let last = last_same session management s s.tick ticks played is in
    let ahead : session.tick ≤ ticks = omega (arith, played.now, last) in
    let now : after.tick ≡ min (last_tick s) (last_tick s) = omega (arith, at ahead, last) in record {
      plan = same_plan ∙ played.plan;
      run = same_frames ∙ played.run;
      good = played.good;
      now = now;
      early = played.early;
      late = played.late;
      records = played.records;
      plays = plays s.header.announce played.early played.plays;
      after_run = played.after_run;
      none_late = played.none_late;
    }

module _ (samples flows last hand hand1 : List ℕ) (old mid : Taken) where
  pub breaks_first : BreaksOff samples hand old mid → BreaksOff ((samples ++ flows) ++ last) hand old mid
  breaks_first front =
      subst (λ text. AppendsFront text old mid) (append_assoc hand samples (flows ++ last) ∙ ap (λ text. hand ++ text) (sym (append_assoc samples flows last)))
      (front_of_more (hand ++ samples) (flows ++ last) old mid front)

  pub breaks_second : (new : Taken) → Gathers samples hand old hand1 mid → BreaksOff flows hand1 mid new → BreaksOff ((samples ++ flows) ++ last) hand old new
  breaks_second new first front =
      subst (λ text. AppendsFront text old new) (append_assoc hand (samples ++ flows) last)
      (front_of_more (hand ++ (samples ++ flows)) last old new (breaks_then samples flows hand hand1 old mid new first front))

  pub breaks_third : (hand2 : List ℕ) (mid2 new : Taken) → Gathers samples hand old hand1 mid → Gathers flows hand1 mid hand2 mid2 → AppendsFront hand2 mid2 new
      → BreaksOff ((samples ++ flows) ++ last) hand old new
  breaks_third hand2 mid2 new first second front =
      breaks_then (samples ++ flows) last hand hand2 old mid2 new (gathers_then samples flows hand hand1 hand2 old mid mid2 first second) (front_of_more hand2 last mid2 new front)

  pub gathers_all : (hand2 hand3 hand4 : List ℕ) (mid2 new : Taken) → Gathers samples hand old hand1 mid → Gathers flows hand1 mid hand2 mid2 → Gathers [] hand2 mid2 hand3 new
      → hand4 ≡ hand3 ++ last → Gathers ((samples ++ flows) ++ last) hand old hand4 new
  gathers_all hand2 hand3 hand4 mid2 new first second room put =
      gathers_then (samples ++ flows) last hand hand2 hand4 old mid2 new (gathers_then samples flows hand hand1 hand2 old mid mid2 first second)
      (gathers_then [] last hand2 hand3 hand4 mid2 new new room (gathers_put last hand3 hand4 new put))

pub on_err : {T E P : Type 0} (r : Result T E) → P → OnErr r P
on_err (Ok x) p = tt
on_err (Err e) p = p
