-- A call of `replay` by the plan of a call of `send` that is done, of the capture that it wrote, prints all of its stream.
use Rattle.std.proofs.Common.{◌≡◌, ℕ, List, refl, sym, ap, ◌∙◌, Option, Some, None, Ok}
use Rattle.std.specs.FinMap.{get}
use Rattle.carrier_plan.specs.PlanOf.{plan_of}
use Rattle.carrier_plan.specs.declared.plan.Plan.{Plan}
use Rattle.plan_checker.specs.Laws.{VerdictIsComputed}
use Rattle.plan_checker.specs.Rules.{IsGood}
use Rattle.plan_checker.specs.Verdict.{verdict_of}
use Rattle.plan_checker.specs.Verdict.Verdict.{Good}
use Rattle.plan_checker.specs.WordSize.{word_size}
use Rattle.link_base.specs.Shelf.{Files}
use Rattle.link_run_capture.specs.declared.header.Header.{Header}
use Rattle.link_run_delay.specs.Delay.{ReadPlansArePlain}
use Rattle.link_run_delay.specs.Existing.{ReadAddressesAreOctets}
use Rattle.link_run_feed.specs.Answer.{Answer}
use Rattle.link_run_feed.specs.Course.{Course, answer_on_file, on_octets}
use Rattle.link_run_feed.specs.Feed.{feed_answer}
use Rattle.link_run_feed.specs.declared.status.Status.TheVariants.{Done}
use Rattle.link_run_plan.proofs.PlanCases.{PlanCase, fails, good_course, is_good, is_none, no_file, plan_case}
use Rattle.link_run_plan.specs.OnPlan.{by_octets, on_plan}
use Rattle.link_run_replay.specs.Replay.{play, replay}
use Rattle.link_run_replay.specs.Replayed.{replay_form}
use Rattle.link_run_send.specs.SampleFile.{stream_of}
use Rattle.link_run_send.specs.Send.{send_by}
use Rattle.link_run_send.specs.Sent.{sent_form}
use Rattle.link_run_send.specs.WholeText.{TextIsWhole}
use Rattle.link_run_send.specs.declared.run_output.Output.TheVariants.{Packets}
use Rattle.link_sender.specs.Stream.{Stream}
use Rattle.link_run_laws.specs.SendIsReplayed.{IsReplayedWhole, SendIsReplayed}
use Rattle.link_run_laws.specs.SentAreReplayed.{BeginsSamples, SentAreReplayed}

announced_by : (p : Plan) (header : Header) (lines : List (List ℕ)) → (stream_of p header lines).announcement ≡ header.announce
unfolding stream_of
announced_by p header lines = refl

replay_by : (plan capture : List ℕ) (p : Plan) (held : Files) → on_octets (by_octets (play capture)) held (get held plan) ≡ play capture p held → (replay plan capture held).answer ≡ (play capture p held).answer
unfolding on_plan
replay_by plan capture p held course = ap (λ (c : Course). c.answer) course

module _ (whole : TextIsWhole) (replayed : SentAreReplayed) (plain : ReadPlansArePlain) (octets_read : ReadAddressesAreOctets) (plan samples capture : List ℕ) (held held' : Files)
    (same_plan : get held' plan ≡ get held plan) where
  module _ (octets : List ℕ) (p : Plan) (here : get held plan ≡ Some octets) (is : plan_of octets ≡ Ok p) (judged : verdict_of p ≡ Good) (good : IsGood p) where
    by_file : (found : Option (List ℕ)) → get held samples ≡ found → (answer : Answer) → answer ≡ answer_on_file (feed_answer (sent_form Packets p)) found → answer.status ≡ Done
        → get held' capture ≡ Some answer.text → IsReplayedWhole plan samples capture held held'
    by_file None there answer same done written = absurd (let other = sym done ∙ ap (λ (a : Answer). a.status) same in cc)
    by_file (Some file) there answer same done written =
        let sent = whole.done Packets p file good (sym (ap (λ (a : Answer). a.status) same) ∙ done) in
        let σ : Stream = stream_of p sent.header sent.lines in
        let begins : BeginsSamples (word_size p.option) sent.header = (sent.file.begins.first, sent.file.begins.says) in
        let announced : σ.announcement ≡ sent.header.announce = announced_by p sent.header sent.lines in
        let capture_is = written ∙ ap Some (ap (λ (a : Answer). a.text) same ∙ sent.written) in
        let back = replayed p sent.header σ good (plain octets p is) (octets_read octets p is) begins sent.is_stream announced in
        let course = good_course (play capture) held' (get held' plan) octets p (same_plan ∙ here) is judged in
        record {
          octets = octets;
          p = p;
          held_plan = here;
          is_plan = is;
          good = good;
          file = file;
          header = sent.header;
          lines = sent.lines;
          held_samples = there;
          is_file = sent.file;
          is_stream = sent.is_stream;
          answer = replay_by plan capture p held' course ∙ ap (answer_on_file (feed_answer (replay_form p))) capture_is ∙ back;
        }

  by_plan_case : VerdictIsComputed → (course : Course) → PlanCase (send_by Packets samples) held (get held plan) course → course.answer.status ≡ Done → get held' capture ≡ Some course.answer.text
      → IsReplayedWhole plan samples capture held held'
  by_plan_case verdicts course (is_good octets p here is judged runs) done written =
      by_file octets p here is judged ((verdicts.good p).0 judged) (get held samples) refl course.answer (ap (λ (c : Course). c.answer) runs) done written
  by_plan_case verdicts course (fails octets p rule item here is judged runs) done written = absurd (let other = sym done ∙ ap (λ (c : Course). c.answer.status) runs in cc)
  by_plan_case verdicts course (is_none why runs) done written = absurd (let other = sym done ∙ ap (λ (c : Course). c.answer.status) runs in cc)
  by_plan_case verdicts course (no_file runs) done written = absurd (let other = sym done ∙ ap (λ (c : Course). c.answer.status) runs in cc)

pub SendIsReplayed-holds : VerdictIsComputed → TextIsWhole → SentAreReplayed → ReadPlansArePlain → ReadAddressesAreOctets → SendIsReplayed
unfolding on_plan
SendIsReplayed-holds verdicts whole replayed plain octets_read plan samples capture held held' done same_plan written =
    by_plan_case whole replayed plain octets_read plan samples capture held held' same_plan verdicts (on_octets (by_octets (send_by Packets samples)) held (get held plan))
    (plan_case (send_by Packets samples) held (get held plan)) done written
