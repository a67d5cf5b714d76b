-- What is written of a run before its first line and after its last one.
use Rattle.std.proofs.Common.{◌≡◌, ℕ, ◌≤◌, List, [], ◌++◌, take, true, false, Bool, sym, ap, ◌∙◌, subst, arith, append_assoc, append-nil}
use Rattle.std.specs.Prelude.{is_none}
use Rattle.std.proofs.lemmas.Bool.{eqb-true}
use Rattle.link_base.specs.Sink.{AppendsFront, Taken}
use Rattle.link_run_capture.specs.declared.header.Header.{Header}
use Rattle.link_run_capture.specs.declared.header.Version.{Version}
use Rattle.link_run_capture.specs.declared.header.Version.TheVariants.{One, Two}
use Rattle.link_sender.specs.HandedIn.{with_samples}
use Rattle.link_text.specs.Gathered.{BreaksOff, Gathers}
use Rattle.link_text.proofs.Gathering.{front_of_more}
use Rattle.link_run_send.specs.Lacking.{lacking_tick}
use Rattle.link_run_send.specs.Sends.{KeepsSent, made_to}
use Rattle.link_run_send.specs.Sent.{Sent, text_below}
use Rattle.link_run_send.specs.SentText.{text_between}
use Rattle.link_run_send.specs.declared.sample_run.SampleRun.{SampleRun}
use Rattle.link_run_send.proofs.HandedOn.{same_text}
use Rattle.link_run_send.proofs.HandedStreams.{with_none}
use Rattle.link_run_send.proofs.Kept.{may_end_is}

pub made_at_most : (v : Version) (b : Bool) (tick : ℕ) → made_to v b tick ≤ tick
made_at_most One b tick = omega arith
made_at_most Two true tick = omega arith
made_at_most Two false tick = omega arith

pub ends_at : (w : SampleRun) (s : Sent) → KeepsSent w s → is_none (lacking_tick s.plan s.header.run_ticks s.stream) ≡ true → w.due.tick ≡ w.header.run_ticks
ends_at w s keeps may = eqb-true w.due.tick w.header.run_ticks (may_end_is w s keeps ∙ may)

module _ (w : SampleRun) (s : Sent) (keeps : KeepsSent w s) (none : w.due.come ≡ 0) where
  -- where none of the carrier's samples have come, all that came was handed in
  pub all_handed : s.stream ≡ keeps.handed
  all_handed = keeps.stream ∙ ap (λ n. with_samples keeps.handed w.due.carrier (take n w.due.samples)) none ∙ with_none keeps.handed w.due.carrier

  pub handed_text : (from to to' : ℕ) → from ≡ s.settled → to' ≡ to
      → text_between w.output.output w.output.sender.plan w.output.sender.frames keeps.handed from to ≡ text_below s to'
  handed_text from to to' start end =
      same_text w.output.output w.output.sender.plan w.checked w.output.sender.frames w.header.run_ticks keeps.handed from s.settled to w.of_plan w.of_run start
      ∙ ap (λ σ. text_between w.output.output w.checked w.header.run_ticks σ s.settled to) (sym all_handed)
      ∙ ap (λ o. text_between o w.checked w.header.run_ticks s.stream s.settled to) (sym keeps.output)
      ∙ ap (λ q. text_between s.output q w.header.run_ticks s.stream s.settled to) (sym keeps.plan)
      ∙ ap (λ (header : Header). text_between s.output s.plan header.run_ticks s.stream s.settled to) (sym keeps.header)
      ∙ ap (text_between s.output s.plan s.header.run_ticks s.stream s.settled) (sym end)

pub breaks_more : (a b hand : List ℕ) (old new : Taken) → BreaksOff a hand old new → BreaksOff (a ++ b) hand old new
breaks_more a b hand old new breaks = subst (λ text. AppendsFront text old new) (append_assoc hand a b) (front_of_more (hand ++ a) b old new breaks)

pub gathers_nothing_more : (a : List ℕ) (b : List ℕ) (hand hand' : List ℕ) (old new : Taken) → b ≡ [] → Gathers a hand old hand' new → Gathers (a ++ b) hand old hand' new
gathers_nothing_more a b hand hand' old new none gathers = subst (λ text. Gathers text hand old hand' new) (sym (append-nil a) ∙ ap (λ c. a ++ c) (sym none)) gathers
