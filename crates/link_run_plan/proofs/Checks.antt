-- The promise of `check`, from what every call promises.
use Rattle.std.proofs.Common.{IsTrue, ◌≡◌, ◌≢◌, ℕ, List, [], refl, sym, ap, subst, ◌∙◌, false, Option, Some, Ok}
use Rattle.std.specs.FinMap.{get}
use Rattle.link_base.specs.Shelf.{Files, Shown}
use Rattle.link_base.specs.Sink.{Taken, Appends}
use Rattle.carrier_plan.specs.PlanOf.{plan_of}
use Rattle.carrier_plan.specs.declared.plan.Plan.{Plan}
use Rattle.carrier_plan.specs.declared.fault.PlanText as fault
use Rattle.plan_checker.specs.Rules.{IsGood, IsFirstFailure}
use Rattle.plan_checker.proofs.Verdicts.{VerdictIsComputed-holds}
use Rattle.link_run_feed.specs.declared.status.Status.{Status}
use Rattle.link_run_feed.specs.declared.status.Status.TheVariants.{Done, No, PlanText, ReadFault}
use Rattle.link_run_feed.specs.Answer.{Answer, is_answer}
use Rattle.link_run_feed.specs.Course.{Course, says, on_octets}
use Rattle.link_run_feed.specs.Promises.{Promises}
use Rattle.link_run_plan.specs.Check.{check}
use Rattle.link_run_plan.specs.ChecksPlan.{ChecksPlan}
use Rattle.link_run_plan.specs.OfOctets.{AnswersFile, ChecksFile, took}
use Rattle.link_run_plan.specs.OnPlan.{by_octets, on_plan}
use Rattle.link_run_plan.specs.Texts.{yes_text, no_text}
use Rattle.link_run_plan.proofs.PlanCases.{PlanCase, is_good, fails, is_none, no_file, plan_case, good_course}

abbrev rest : Plan → Files → Course
rest p held = says Done (yes_text p)

-- statuses that differ
no_is_not_done : (rule item : ℕ) → Done ≢ No rule item
no_is_not_done rule item is = cc

text_is_not_done : (why : fault.PlanText) → Done ≢ PlanText why
text_is_not_done why is = cc

fault_is_not_done : Done ≢ ReadFault
fault_is_not_done is = cc

done_is_not_no : (rule item : ℕ) → No rule item ≢ Done
done_is_not_no rule item is = cc

text_is_not_no : (rule item : ℕ) (why : fault.PlanText) → No rule item ≢ PlanText why
text_is_not_no rule item why is = cc

fault_is_not_no : (rule item : ℕ) → No rule item ≢ ReadFault
fault_is_not_no rule item is = cc

one_rule : (rule item other place : ℕ) → No rule item ≡ No other place → (other ≡ rule) × (item ≡ place)
one_rule rule item other place is = (cc, cc)

-- how the call of a file runs, and what it wrote
module _ (held : Files) (found : Option (List ℕ)) (sink sink' : Taken) where
  yes_of : (course : Course) → PlanCase rest held found course → Done ≡ course.answer.status → Appends course.answer.text sink sink'
      → (octets : List ℕ) × (p : Plan) × (found ≡ Some octets) × (plan_of octets ≡ Ok p) × IsGood p × Appends (yes_text p) sink sink'
  yes_of course (is_good octets p here is judged runs) status written =
      (octets, p, here, is, (VerdictIsComputed-holds.good p).0 judged, subst (λ (c : Course). Appends c.answer.text sink sink') runs written)
  yes_of course (fails octets p rule item here is judged runs) status written = absurd (no_is_not_done rule item (status ∙ ap (λ (c : Course). c.answer.status) runs))
  yes_of course (is_none why runs) status written = absurd (text_is_not_done why (status ∙ ap (λ (c : Course). c.answer.status) runs))
  yes_of course (no_file runs) status written = absurd (fault_is_not_done (status ∙ ap (λ (c : Course). c.answer.status) runs))

  first_of : (rule item : ℕ) (course : Course) → PlanCase rest held found course → No rule item ≡ course.answer.status → Appends course.answer.text sink sink'
      → (octets : List ℕ) × (p : Plan) × (found ≡ Some octets) × (plan_of octets ≡ Ok p) × IsFirstFailure p rule item × Appends (no_text rule item) sink sink'
  first_of rule item course (is_good octets p here is judged runs) status written = absurd (done_is_not_no rule item (status ∙ ap (λ (c : Course). c.answer.status) runs))
  first_of rule item course (fails octets p other place here is judged runs) status written =
      let same = one_rule rule item other place (status ∙ ap (λ (c : Course). c.answer.status) runs) in
      let first = (VerdictIsComputed-holds.fails p other place).0 judged in
      let text = subst (λ (c : Course). Appends c.answer.text sink sink') runs written in (
        octets,
        p,
        here,
        is,
        subst (λ r. IsFirstFailure p r item) same.0 (subst (IsFirstFailure p other) (sym same.1) first),
        subst (λ r. Appends (no_text r item) sink sink') same.0 (subst (λ i. Appends (no_text other i) sink sink') (sym same.1) text),
      )
  first_of rule item course (is_none why runs) status written = absurd (text_is_not_no rule item why (status ∙ ap (λ (c : Course). c.answer.status) runs))
  first_of rule item course (no_file runs) status written = absurd (fault_is_not_no rule item (status ∙ ap (λ (c : Course). c.answer.status) runs))

pub checks : (name : List ℕ) (shelf shelf' : Shown) (sink sink' : Taken) (status : Status) → Promises false (check name shelf.held) shelf shelf' sink sink' status → IsTrue shelf.tells
    → ChecksPlan name shelf.held sink sink' status
unfolding on_plan
checks name shelf shelf' sink sink' status promises told =
    let found = get shelf.held name in
    let course = on_octets (by_octets rest) shelf.held found in record {
      yes = λ done.
          let all = promises.answers (ap is_answer done) told in
          yes_of shelf.held found sink sink' course (plan_case rest shelf.held found) (sym done ∙ all.answer) all.written;
      only_yes = λ octets p here is good answers.
          let all = promises.answers answers told in
          all.answer ∙ ap (λ (c : Course). c.answer.status) (good_course rest shelf.held found octets p here is ((VerdictIsComputed-holds.good p).1 good));
      first = λ rule item no.
          let all = promises.answers (ap is_answer no) told in
          first_of shelf.held found sink sink' rule item course (plan_case rest shelf.held found) (sym no ∙ all.answer) all.written;
    }

-- so does a call whose answer is known
pub checks_file : (octets : List ℕ) (status : Status) (text : List ℕ) → AnswersFile octets status text → ChecksFile octets status text
unfolding on_plan
checks_file octets status text answers = λ name held here.
    let found = get held name in
    let course = on_octets (by_octets rest) held found in
    let is : course.answer ≡ record { status = status; text = text } = answers name held here in
    let wrote : Appends course.answer.text (took []) (took text) = record { tells = refl; written = λ told. ap (λ (a : Answer). a.text) (sym is) } in record {
      yes = λ done. yes_of held found (took []) (took text) course (plan_case rest held found) (sym done ∙ ap (λ (a : Answer). a.status) (sym is)) wrote;
      only_yes = λ octets p here is_plan good answered.
          ap (λ (a : Answer). a.status) (sym is) ∙ ap (λ (c : Course). c.answer.status) (good_course rest held found octets p here is_plan ((VerdictIsComputed-holds.good p).1 good));
      first = λ rule item no.
          first_of held found (took []) (took text) rule item course (plan_case rest held found) (sym no ∙ ap (λ (a : Answer). a.status) (sym is)) wrote;
    }
