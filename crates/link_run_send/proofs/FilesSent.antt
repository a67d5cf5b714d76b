-- A call of `send` or `line` that is done has written the whole text of its file.
use Rattle.std.proofs.Common.{◌≡◌, ℕ, List, refl, sym, ap, subst, ◌∙◌, Option, Some, None, Ok}
use Rattle.std.specs.FinMap.{get}
use Rattle.carrier_plan.specs.PlanOf.{plan_of}
use Rattle.carrier_plan.specs.declared.plan.Plan.{Plan}
use Rattle.link_base.specs.Shelf.{Files}
use Rattle.link_base.specs.Sink.{Appends, Taken}
use Rattle.link_run_feed.specs.Answer.{Answer, is_answer}
use Rattle.link_run_feed.specs.Course.{Course, answer_on_file, on_octets}
use Rattle.link_run_feed.specs.Feed.{feed_answer}
use Rattle.link_run_feed.specs.declared.status.Status.TheVariants.{Done, No, PlanText, ReadFault}
use Rattle.link_run_plan.specs.OnPlan.{by_octets, on_plan}
use Rattle.link_run_plan.proofs.PlanCases.{PlanCase, fails, is_good, is_none, no_file, plan_case}
use Rattle.plan_checker.specs.Rules.{IsGood}
use Rattle.plan_checker.proofs.Verdicts.{VerdictIsComputed-holds}
use Rattle.link_run_send.specs.Send.{send_by}
use Rattle.link_run_send.specs.SendsFile.{FilesAreSent, SendsFile}
use Rattle.link_run_send.specs.Sent.{sent_form}
use Rattle.link_run_send.specs.declared.run_output.Output.{Output}
use Rattle.link_run_send.proofs.WholeTexts.{TextIsWhole-holds}

module _ (output : Output) (plan samples : List ℕ) (held : Files) (sink sink' : Taken) where
  module _ (octets : List ℕ) (p : Plan) (here : get held plan ≡ Some octets) (is : plan_of octets ≡ Ok p) (good : IsGood p) where
    by_feed : (found : Option (List ℕ)) → get held samples ≡ found → (answer : Answer) → answer ≡ answer_on_file (feed_answer (sent_form output p)) found
        → Done ≡ answer.status → Appends answer.text sink sink' → SendsFile output plan samples held sink sink'
    by_feed None there answer same status written = absurd (let no : Done ≡ ReadFault = status ∙ ap (λ (a : Answer). a.status) same in cc)
    by_feed (Some feed) there answer same status written = record {
      octets = octets;
      p = p;
      held_plan = here;
      is_plan = is;
      good = good;
      feed = feed;
      held_samples = there;
      text = (feed_answer (sent_form output p) feed).text;
      is_whole = TextIsWhole-holds.done output p feed good (sym (status ∙ ap (λ (a : Answer). a.status) same));
      written = subst (λ t. Appends t sink sink') (ap (λ (a : Answer). a.text) same) written;
    }

  sent : (course : Course) → PlanCase (send_by output samples) held (get held plan) course → Done ≡ course.answer.status → Appends course.answer.text sink sink'
      → SendsFile output plan samples held sink sink'
  sent course (is_good octets p here is judged runs) status written =
      by_feed octets p here is ((VerdictIsComputed-holds.good p).0 judged) (get held samples) refl course.answer (ap (λ (c : Course). c.answer) runs) status written
  sent course (fails octets p rule item here is judged runs) status written = absurd (let no : Done ≡ No rule item = status ∙ ap (λ (c : Course). c.answer.status) runs in cc)
  sent course (is_none why runs) status written = absurd (let no : Done ≡ PlanText why = status ∙ ap (λ (c : Course). c.answer.status) runs in cc)
  sent course (no_file runs) status written = absurd (let no : Done ≡ ReadFault = status ∙ ap (λ (c : Course). c.answer.status) runs in cc)

pub FilesAreSent-holds : FilesAreSent
unfolding on_plan
FilesAreSent-holds output plan samples shelf shelf' sink sink' status promises told done =
    let all = promises.answers (ap is_answer done) told in
    let rest = send_by output samples in
    let course = on_octets (by_octets rest) shelf.held (get shelf.held plan) in
    sent output plan samples shelf.held sink sink' course (plan_case rest shelf.held (get shelf.held plan)) (sym done ∙ all.answer) all.written
