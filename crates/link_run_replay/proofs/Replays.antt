-- A replay that is done has printed what all records of its capture give.
use Rattle.std.proofs.Common.{IsTrue, ◌≡◌, ◌≢◌, ℕ, List, true, refl, sym, ap, subst, ◌∙◌, Option, Some, None, Ok}
use Rattle.std.specs.FinMap.{get}
use Rattle.carrier_plan.specs.PlanOf.{plan_of}
use Rattle.carrier_plan.specs.declared.plan.Plan.{Plan}
use Rattle.carrier_plan.specs.declared.fault.PlanText as fault
use Rattle.plan_checker.specs.Rules.{IsGood}
use Rattle.plan_checker.proofs.Verdicts.{VerdictIsComputed-holds}
use Rattle.link_base.specs.Shelf.{Files, Shown}
use Rattle.link_base.specs.Sink.{Taken, Appends}
use Rattle.link_run_feed.specs.declared.status.Status.{Status}
use Rattle.link_run_feed.specs.declared.status.Status.TheVariants.{Done, No, PlanText, ReadFault}
use Rattle.link_run_feed.specs.Answer.{Answer, is_answer}
use Rattle.link_run_feed.specs.Course.{Course, on_octets, answer_on_file}
use Rattle.link_run_feed.specs.Feed.{feed_answer}
use Rattle.link_run_feed.specs.Promises.{Promises}
use Rattle.link_run_plan.specs.OnPlan.{by_octets, on_plan}
use Rattle.link_run_plan.proofs.PlanCases.{PlanCase, is_good, fails, is_none, no_file, plan_case}
use Rattle.link_run_replay.specs.Replay.{play, replay}
use Rattle.link_run_replay.specs.Replayed.{replay_form}
use Rattle.link_run_replay.specs.WholeText.{ReplaysCapture}
use Rattle.link_run_replay.proofs.ReplayWhole.{TextIsWhole-holds}

-- statuses that differ
no_is_not_done : (rule item : ℕ) → Done ≢ No rule item
no_is_not_done rule item is = cc

text_is_not_done : (why : fault.PlanText) → Done ≢ PlanText why
text_is_not_done why is = cc

fault_is_not_done : Done ≢ ReadFault
fault_is_not_done is = cc

module _ (plan capture : List ℕ) (held : Files) (sink sink' : Taken) where
  module _ (octets : List ℕ) (p : Plan) (here : get held plan ≡ Some octets) (is : plan_of octets ≡ Ok p) (good : IsGood p) where
    by_feed : (found : Option (List ℕ)) → get held capture ≡ found → (answer : Answer) → answer ≡ answer_on_file (feed_answer (replay_form p)) found
        → Done ≡ answer.status → Appends answer.text sink sink' → ReplaysCapture plan capture held sink sink'
    by_feed None there answer same status written = absurd (fault_is_not_done (status ∙ ap (λ (a : Answer). a.status) same))
    by_feed (Some feed) there answer same status written =
        let whole = TextIsWhole-holds.done p feed good (sym (status ∙ ap (λ (a : Answer). a.status) same)) in record {
          octets = octets;
          p = p;
          held_plan = here;
          is_plan = is;
          good = good;
          feed = feed;
          header = whole.header;
          records = whole.records;
          held_capture = there;
          is_capture = whole.capture;
          written = subst (λ t. Appends t sink sink') (ap (λ (a : Answer). a.text) same ∙ whole.printed) written;
        }

  replayed : (course : Course) → PlanCase (play capture) held (get held plan) course → Done ≡ course.answer.status → Appends course.answer.text sink sink' → ReplaysCapture plan capture held sink sink'
  replayed course (is_good octets p here is judged runs) status written =
      by_feed octets p here is ((VerdictIsComputed-holds.good p).0 judged) (get held capture) refl course.answer (ap (λ (c : Course). c.answer) runs) status written
  replayed course (fails octets p rule item here is judged runs) status written = absurd (no_is_not_done rule item (status ∙ ap (λ (c : Course). c.answer.status) runs))
  replayed course (is_none why runs) status written = absurd (text_is_not_done why (status ∙ ap (λ (c : Course). c.answer.status) runs))
  replayed course (no_file runs) status written = absurd (fault_is_not_done (status ∙ ap (λ (c : Course). c.answer.status) runs))

pub replays : (plan capture : List ℕ) (shelf shelf' : Shown) (sink sink' : Taken) (status : Status) → Promises true (replay plan capture shelf.held) shelf shelf' sink sink' status → IsTrue shelf.tells
    → status ≡ Done → ReplaysCapture plan capture shelf.held sink sink'
unfolding on_plan
replays plan capture shelf shelf' sink sink' status promises told done =
    let all = promises.answers (ap is_answer done) told in
    let course = on_octets (by_octets (play capture)) shelf.held (get shelf.held plan) in
    replayed plan capture shelf.held sink sink' course (plan_case (play capture) shelf.held (get shelf.held plan)) (sym done ∙ all.answer) all.written
