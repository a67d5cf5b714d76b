-- What is kept of a run goes on with a sample more.
use Rattle.std.proofs.Common.{◌≡◌, ℕ, ◌+◌, ◌<◌, ◌≤◌, List, [], ◌∷◌, ◌++◌, length, length-append, length-set, length-take, set, take, All, true, Result, Ok, Err, refl, sym, ap, ◌∙◌, subst, arith, append_assoc, inl, inr}
use Rattle.std.specs.Prelude.{OnOk, is_some}
use Rattle.std.proofs.lemmas.Bool.{cases_eq, cases_lt}
use Rattle.std.proofs.lemmas.List.{take_more_set}
use Rattle.std.proofs.lemmas.List.Elements.{All-push}
use Rattle.carrier_plan.specs.declared.plan.Plan.{Plan}
use Rattle.link_base.specs.Sink.{AppendsFront, Taken}
use Rattle.link_run_capture.specs.declared.header.Header.{Header}
use Rattle.link_run_capture.specs.declared.header.Version.{Version}
use Rattle.link_run_capture.specs.declared.header.Version.TheVariants.{One, Two}
use Rattle.link_sender.specs.HandedIn.{with_samples}
use Rattle.link_sender.specs.Laws.{AgreesBefore}
use Rattle.link_sender.specs.Stream.{Stream, samples_of}
use Rattle.link_text.specs.Gathered.{BreaksOff}
use Rattle.link_text.proofs.Gathering.{front_of_more}
use Rattle.plan_checker.specs.Rules.{IsGood}
use Rattle.plan_checker.specs.Rules.Rule.{Counts}
use Rattle.plan_checker.specs.Run.{samples_before}
use Rattle.sample_bits.specs.Samples.{IsWithin}
use Rattle.sample_bits.specs.declared.iq.RawIq.{RawIq}
use Rattle.link_run_send.specs.ComesNext.{ComesLater, IsCounted}
use Rattle.link_run_send.specs.Lacking.{complete_ticks, lacking_carrier, lacking_tick}
use Rattle.link_run_send.specs.Sends.{KeepsSent, come_of, made_to, places_left}
use Rattle.link_run_send.specs.Sent.{Sent, complete_of, has_samples, text_below, width_of, with_sample}
use Rattle.link_run_send.specs.SentText.{text_between}
use Rattle.link_run_send.specs.declared.due.Due.{Due}
use Rattle.link_run_send.specs.declared.run_output.Output.{Output}
use Rattle.link_run_send.specs.declared.sample_run.SampleRun.{SampleRun}
use Rattle.link_run_send.proofs.CompleteTicks.{find_from}
use Rattle.link_run_send.proofs.HandedOn.{same_text}
use Rattle.link_run_send.proofs.HandedStreams.{agrees_with, has_with, with_none, with_twice}
use Rattle.link_run_send.proofs.Kept.{as_many, by_run, counted}
use Rattle.link_run_send.proofs.LackingPlaces.{LengthsAt, lengths_with, missing_complete, none_before, none_complete}
use Rattle.link_run_send.proofs.SettledTexts.{text_settled, text_split}

pub both_ok : {T E : Type 0} (A B : Type 0) (r : Result T E) → OnOk r A → OnOk r B → OnOk r (A × B)
both_ok A B (Ok x) a b = (a, b)
both_ok A B (Err e) a b = tt

pub made_true : (v : Version) (tick : ℕ) → made_to v true tick ≡ tick
made_true One tick = refl
made_true Two tick = refl

-- one sample more of the carrier's bits
pub within_more : (p : Plan) (c come : ℕ) (samples : List RawIq) (v : RawIq) → come < length samples → All (IsWithin (width_of p c)) (take come samples) → IsWithin (width_of p c) v
    → All (IsWithin (width_of p c)) (take (come + 1) (set samples come v))
within_more p c come samples v inside all one =
    subst (All (IsWithin (width_of p c))) (sym (take_more_set samples come v inside)) (All-push (IsWithin (width_of p c)) (take come samples) v all one)

pub complete_from : (p : Plan) (h : ℕ) (σ : Stream) (tick carrier come : ℕ) → LengthsAt p σ tick carrier come → tick ≤ h → tick ≤ complete_ticks p h σ
unfolding lacking_tick
complete_from p h σ tick carrier come lengths within =
    find_from (λ n. is_some (lacking_carrier p σ n)) h tick 0 h within (λ n less. ap is_some (none_before p h σ tick carrier come lengths n less))

-- where the samples of a later place come next
pub complete_later : (p : Plan) (h : ℕ) (σ : Stream) (counts : List ℕ) (old new : Due) → ComesLater p h counts old new → IsCounted p σ counts → complete_ticks p h σ ≡ new.tick
complete_later p h σ counts old new later counted =
    let lengths = subst (λ (τ : Stream). LengthsAt p τ new.tick new.carrier 0) (with_none σ new.carrier) (lengths_with p σ counts new.tick new.carrier [] later.handed_to counted.each counted.carriers) in
    let next = later.next in
    elim (cases_lt new.tick h) [
      | inl less ↦
          missing_complete p h σ new.tick new.carrier 0 lengths less (next.carrier less) (omega (arith, next.missing less, next.count less, later.none_come))
      | inr past ↦
          let within = next.within in
          let end : new.tick ≡ h = omega (arith, within, past) in
          none_complete p h σ new.tick new.carrier 0 lengths end ∙ sym end
    ]

module _ (w : SampleRun) (s : Sent) (keeps : KeepsSent w s) (v : RawIq) (missing : w.due.tick < w.header.run_ticks) where
  abbrev c : ℕ
  c = w.due.carrier

  abbrev p : Plan
  p = w.checked

  abbrev h : ℕ
  h = w.header.run_ticks

  abbrev part : List RawIq
  part = come_of w.due ++ v ∷ []

  abbrev σ : Stream
  σ = with_samples s.stream c (v ∷ [])

  good : IsGood p
  good = subst IsGood w.of_plan keeps.sends.good

  inside : c < length keeps.handed.samples
  inside = omega (arith, w.next.carrier missing, as_many w s keeps)

  long : length (samples_of keeps.handed c) ≡ samples_before p c w.due.tick
  long = counted w s keeps c (w.next.carrier missing) ∙ w.handed.from c (omega arith) (w.next.carrier missing)

  pub stream_on : with_samples s.stream c (v ∷ []) ≡ with_samples keeps.handed c (come_of w.due ++ v ∷ [])
  stream_on = ap (λ (τ : Stream). with_samples τ c (v ∷ [])) keeps.stream ∙ with_twice keeps.handed c inside (come_of w.due) (v ∷ [])

  pub has_on : has_samples (with_samples s.stream c (v ∷ [])) ≡ true
  has_on =
      let size = ap (λ (τ : Stream). length τ.samples) keeps.stream ∙ length-set keeps.handed.samples c (samples_of keeps.handed c ++ come_of w.due) in
      has_with s.stream c (v ∷ []) (omega (arith, inside, size)) (omega arith)

  agrees : AgreesBefore p w.due.tick keeps.handed (with_samples keeps.handed c part)
  agrees = agrees_with p keeps.handed c w.due.tick part good inside long

  -- the text of these ticks, by what is kept and by the stream with the sample
  pub text_on : (output : Output) (from : ℕ) → from ≤ w.due.tick
      → text_between output p h keeps.handed from w.due.tick ≡ text_between output p h (with_samples s.stream c (v ∷ [])) from w.due.tick
  text_on output from grows =
      sym (text_settled p h keeps.handed (with_samples keeps.handed c part) good w.due.tick agrees output from w.due.tick grows (omega arith))
      ∙ ap (λ τ. text_between output p h τ from w.due.tick) (sym stream_on)

  -- the same with what the state says of the run
  pub by_state : (from to : ℕ) → s.settled ≡ from → text_between w.output.output p h (with_samples s.stream c (v ∷ [])) from to ≡ text_below (with_sample s c v) to
  by_state from to start =
      ap (λ o. text_between o p h σ from to) (sym keeps.output) ∙ ap (λ q. text_between s.output q h σ from to) (sym keeps.plan)
      ∙ ap (λ (header : Header). text_between s.output s.plan header.run_ticks σ from to) (sym keeps.header) ∙ ap (λ n. text_between s.output s.plan s.header.run_ticks σ n to) (sym start)

  pub first_text : text_between w.output.output w.output.sender.plan w.output.sender.frames keeps.handed w.output.sender.tick w.due.tick ≡ text_below (with_sample s c v) w.due.tick
  first_text =
      same_text w.output.output w.output.sender.plan p w.output.sender.frames h keeps.handed w.output.sender.tick w.output.sender.tick w.due.tick w.of_plan w.of_run refl
      ∙ text_on w.output.output w.output.sender.tick (w.early missing) ∙ by_state w.output.sender.tick w.due.tick keeps.settled

  lengths_on : LengthsAt p (with_samples s.stream c (v ∷ [])) w.due.tick c (length (come_of w.due ++ v ∷ []))
  lengths_on =
      subst (λ (τ : Stream). LengthsAt p τ w.due.tick c (length part)) (sym stream_on)
      (lengths_with p keeps.handed w.output.sender.handed w.due.tick c part w.handed (counted w s keeps) (as_many w s keeps))

  -- the ticks that are settled are at least those before the sample's
  pub at_least : w.due.tick ≤ complete_of (with_sample s c v)
  at_least =
      let same = by_run w s keeps (λ q n. complete_ticks q n σ) in
      omega (arith, same, complete_from p h σ w.due.tick c (length part) lengths_on w.next.within)

  -- they are these where more samples of the carrier are due
  pub complete_same : w.due.come + 1 < w.due.count → complete_of (with_sample s c v) ≡ w.due.tick
  complete_same more =
      by_run w s keeps (λ q n. complete_ticks q n σ)
      ∙ missing_complete p h σ w.due.tick c (length part) lengths_on missing (w.next.carrier missing)
      (omega (arith, length-append (come_of w.due) (v ∷ []), length-take w.due.come w.due.samples, more, w.next.count missing))

  -- and else those before the tick of the samples that come next
  pub complete_next : (counts : List ℕ) (old new : Due) → ComesLater w.checked w.header.run_ticks counts old new → IsCounted w.checked (with_samples s.stream c (v ∷ [])) counts → complete_of (with_sample s c v) ≡ new.tick
  complete_next counts old new later counted_on =
      by_run w s keeps (λ q n. complete_ticks q n σ) ∙ complete_later p h σ counts old new later counted_on

  -- the text of the ticks from the sample's on
  pub second_text : (o : Output) (τ : Stream) (to to' : ℕ) → o ≡ w.output.output → with_samples s.stream c (v ∷ []) ≡ τ → to' ≡ to
      → text_between o w.checked w.header.run_ticks τ w.due.tick to ≡ text_between s.output s.plan s.header.run_ticks (with_samples s.stream c (v ∷ [])) w.due.tick to'
  second_text o τ to to' output stream end =
      ap (λ x. text_between x p h τ w.due.tick to) (output ∙ sym keeps.output) ∙ ap (λ x. text_between s.output p h x w.due.tick to) (sym stream)
      ∙ ap (λ q. text_between s.output q h σ w.due.tick to) (sym keeps.plan) ∙ ap (λ (header : Header). text_between s.output s.plan header.run_ticks σ w.due.tick to) (sym keeps.header)
      ∙ ap (text_between s.output s.plan s.header.run_ticks σ w.due.tick) (sym end)

  few_carriers : c < 64
  few_carriers =
      let rule = good Counts 0 (omega arith) in
      omega (arith, w.next.carrier missing, rule.few_carriers)

  -- the places that are left are fewer at a later place
  pub fewer_at : (counts : List ℕ) (old new : Due) → old.tick ≡ w.due.tick → old.carrier ≡ w.due.carrier → ComesLater w.checked w.header.run_ticks counts old new
      → places_left w.header.run_ticks new w.room < places_left w.header.run_ticks w.due w.room
  fewer_at counts old new same_tick same_carrier later =
      elim (cases_eq new.tick old.tick) [
        | inl here ↦ omega (arith, here, same_tick, same_carrier, later.carrier here, later.none_come, few_carriers, w.next.missing missing, w.next.few)
        | inr other ↦ omega (arith, other, later.later, same_tick, later.none_come, later.next.within, w.next.missing missing, w.next.few)
      ]

  -- the text of the ticks before the sample's, and what is settled after it
  pub state_split : (mid to : ℕ) → w.due.tick ≡ mid → mid ≤ to
      → text_below (with_sample s c v) to ≡ text_below (with_sample s c v) mid ++ text_between s.output s.plan s.header.run_ticks (with_samples s.stream c (v ∷ [])) mid to
  state_split mid to here grows =
      text_split s.output s.plan s.header.run_ticks σ s.settled mid to (omega (arith, w.early missing, keeps.settled, here)) grows

  pub breaks_first : (hand : List ℕ) (old new : Taken)
      → BreaksOff (text_between w.output.output w.output.sender.plan w.output.sender.frames keeps.handed w.output.sender.tick w.due.tick) hand old new
      → BreaksOff (text_below (with_sample s c v) (complete_of (with_sample s c v))) hand old new
  breaks_first hand old new breaks =
      let first = text_below (with_sample s c v) w.due.tick in
      let rest = text_between s.output s.plan s.header.run_ticks σ w.due.tick (complete_of (with_sample s c v)) in
      subst (λ text. AppendsFront text old new)
      (append_assoc hand first rest ∙ ap (λ text. hand ++ text) (sym (state_split w.due.tick (complete_of (with_sample s c v)) refl at_least)))
      (front_of_more (hand ++ first) rest old new (subst (λ text. AppendsFront (hand ++ text) old new) first_text breaks))
