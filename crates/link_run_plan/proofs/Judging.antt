-- The promise of a call that goes on by a plan, from what reading and judging the plan leave.
use Rattle.std.proofs.Common.{IsTrue, ◌≡◌, ◌≢◌, ◌≤◌, inl, inr, ℕ, List, true, false, length, take, length-take, ◌<◌, arith, refl, sym, ap, subst, ◌∙◌, Some, Result, Ok, Err}
use Rattle.std.specs.Prelude.{IfOk, IfErr, nat_lt, Bool}
use Rattle.std.specs.FinMap.{get}
use Rattle.std.proofs.lemmas.Bool.{cases_lt, cond-true, lt-ltb}
use Rattle.std.proofs.lemmas.List.{take_all}
use Rattle.link_base.specs.Shelf.{Files, Shown, SameFiles}
use Rattle.link_base.specs.Sink.{Taken}
use Rattle.carrier_plan.specs.PlanOf.{plan_of}
use Rattle.carrier_plan.specs.declared.plan.Plan.{Plan}
use Rattle.carrier_plan.specs.declared.fault.PlanText as fault
use Rattle.carrier_plan.specs.declared.fault.PlanText.TheVariants.{Long}
use Rattle.plan_checker.specs.Verdict.{verdict_of}
use Rattle.plan_checker.specs.Verdict.Verdict.{Fails}
use Rattle.link_run_feed.specs.declared.reason.Reason.{Reason}
use Rattle.link_run_feed.specs.declared.status.Status.{Status}
use Rattle.link_run_feed.specs.declared.status.Status.TheVariants.{Done, No, PlanText, FeedBad, ReadFault, NoMemory}
use Rattle.link_run_feed.specs.Answer.{is_answer}
use Rattle.link_run_feed.specs.Course.{Course, says, after_whole, on_octets}
use Rattle.link_run_feed.specs.Given.{IsGiven}
use Rattle.link_run_feed.specs.Promises.{Promises}
use Rattle.link_run_feed.proofs.Courses.{at_file, for_want, answered, went_on}
use Rattle.link_base.specs.Faults.{Rose}
use Rattle.link_run_plan.specs.OnPlan.{by_verdict, by_plan, by_octets, on_plan}
use Rattle.link_run_plan.specs.PlanCalls.{Passes, Refuses, Wants, IsJudged, GoesOnBy, EndsAtPlan}
use Rattle.link_run_plan.specs.Texts.{no_text, fault_text}
use Rattle.link_run_plan.specs.PlanFile.{plan_limit, IsPlanFile, FailsAtFile}

-- what is read of a plan's file is the same plan, or too long as the whole is
too_long : (octets : List ℕ) → 65536 < length octets → plan_of octets ≡ Err Long
unfolding plan_of
too_long octets long = cond-true (nat_lt 65536 (length octets)) _ _ (lt-ltb 65536 (length octets) long)

plan_of_prefix : (whole : List ℕ) → plan_of (take plan_limit whole) ≡ plan_of whole
plan_of_prefix whole = elim (cases_lt 65536 (length whole)) [
  | inl long ↦ too_long (take plan_limit whole) (omega (arith, length-take plan_limit whole)) ∙ sym (too_long whole long)
  | inr short ↦ ap plan_of (take_all plan_limit whole (omega arith))
]

-- a plan that fails a rule is refused
pub refuses_plan : (read : Result Plan fault.PlanText) (p : Plan) (rule item : ℕ) (sink sink' : Taken) (status : Status) → read ≡ Ok p → verdict_of p ≡ Fails rule item
    → IsGiven (No rule item) (no_text rule item) sink sink' status → Refuses read sink sink' status
refuses_plan read p rule item sink sink' status is_read computed given = record {
  answer = record { status = No rule item; text = no_text rule item };
  answers = refl;
  no_feed = λ line reason bad. cc;
  course = λ rest held. ap (λ r. by_plan r rest held) is_read ∙ ap (λ v. by_verdict v (rest p held)) computed;
  given = given;
}

-- a text that is no plan is refused
pub refuses_text : (read : Result Plan fault.PlanText) (why : fault.PlanText) (sink sink' : Taken) (status : Status) → read ≡ Err why
    → IsGiven (PlanText why) (fault_text why) sink sink' status → Refuses read sink sink' status
refuses_text read why sink sink' status is_read given = record {
  answer = record { status = PlanText why; text = fault_text why };
  answers = refl;
  no_feed = λ line reason bad. cc;
  course = λ rest held. ap (λ r. by_plan r rest held) is_read;
  given = given;
}

-- The file of a plan could not be read.
pub fails_at_plan : (name : List ℕ) (old new : Shown) (sink : Taken) → SameFiles old new → old.faults ≤ new.faults → Rose old.faults new.faults
    → (IsTrue old.tells → FailsAtFile name old new) → EndsAtPlan name old new sink sink ReadFault
unfolding on_plan
fails_at_plan name old new sink files never_falls rose fails = λ reads_feed rest.
    at_file reads_feed name (by_octets rest) old new sink files never_falls rose (λ told. (fails told).chosen) (λ told. (fails told).failed) (λ told. (fails told).taken)

-- Memory was wanting for the file of a plan.
pub wants_at_plan : (name : List ℕ) (old new : Shown) (sink : Taken) → SameFiles old new → new.faults ≡ old.faults → (IsTrue old.tells → new.chosen ≡ Some name)
    → EndsAtPlan name old new sink sink NoMemory
unfolding on_plan
wants_at_plan name old new sink files same chosen = λ reads_feed rest. for_want reads_feed name (by_octets rest) old new sink files same chosen

-- The file of a plan was read, and its octets were judged.
module _ (name octets : List ℕ) (old mid : Shown) (sink sink' : Taken) (files : SameFiles old mid) (same : mid.faults ≡ old.faults)
    (chosen : IsTrue old.tells → mid.chosen ≡ Some name) (file : IsTrue old.tells → IsPlanFile name old.held octets) where
  -- what follows the file goes by the octets that were read
  goes_by : (rest : Plan → Files → Course) → IsTrue old.tells → on_octets (by_octets rest) old.held (get old.held name) ≡ by_plan (plan_of octets) rest old.held
  goes_by rest told =
      let at = file told in
      ap (λ found. on_octets (by_octets rest) old.held found) at.held_here
      ∙ ap (λ read. by_plan read rest old.held) (sym (ap plan_of at.prefix ∙ plan_of_prefix at.whole))

  module _ (p : Plan) (passes : Passes (plan_of octets) p sink sink') where
    goes_on_by : (rest : Plan → Files → Course) → IsTrue old.tells → on_octets (by_octets rest) old.held (get old.held name) ≡ rest p old.held
    goes_on_by rest told =
        goes_by rest told ∙ ap (λ read. by_plan read rest old.held) passes.is_read ∙ ap (λ v. by_verdict v (rest p old.held)) passes.computed

    passed : GoesOnBy name p old mid sink sink'
    unfolding on_plan
    passed = record {
      files = files;
      faults = same;
      same = passes.same;
      course = λ told rest. ap (after_whole name) (goes_on_by rest told);
      promises = λ reads_feed rest now taken status after.
          went_on reads_feed name (on_octets (by_octets rest) old.held (get old.held name)) (rest p mid.held) old mid now sink taken status files same chosen
          (λ told. ap (rest p) (files.held told) ∙ sym (goes_on_by rest told))
          (subst (λ s. Promises reads_feed (rest p mid.held) mid now s taken status) passes.same after);
    }

  refused : (status : Status) → Refuses (plan_of octets) sink sink' status → EndsAtPlan name old mid sink sink' status
  unfolding on_plan
  refused status refuses = λ reads_feed rest.
      answered reads_feed (on_plan name rest old.held) old mid sink sink' refuses.answer status files same refuses.answers refuses.no_feed
      (λ told. sym (ap (λ (course : Course). course.answer) (goes_by rest told ∙ refuses.course rest old.held)))
      refuses.given

  wanted : (status : Status) → Wants sink sink' status → EndsAtPlan name old mid sink sink' status
  wanted status wants =
      subst (λ s. EndsAtPlan name old mid sink sink' s) (sym wants.status)
      (subst (λ s. EndsAtPlan name old mid sink s NoMemory) (sym wants.same) (wants_at_plan name old mid sink files same chosen))

  pub goes_on : (result : Result Plan Status) → IsJudged (plan_of octets) sink sink' result → IfOk result (λ p. GoesOnBy name p old mid sink sink')
  goes_on (Ok p) passes = passed p passes
  goes_on (Err status) other = tt

  pub ends : (result : Result Plan Status) → IsJudged (plan_of octets) sink sink' result → IfErr result (λ status. EndsAtPlan name old mid sink sink' status)
  ends (Ok p) passes = tt
  ends (Err status) (inl wants) = wanted status wants
  ends (Err status) (inr refuses) = refused status refuses

-- An answer was given, and no further file was come to.
pub says_given : (reads_feed : Bool) (status : Status) (text : List ℕ) (shelf : Shown) (sink sink' : Taken) (result : Status)
    → is_answer status ≡ true → ((line : ℕ) (reason : Reason) → status ≢ FeedBad line reason) → IsGiven status text sink sink' result
    → Promises reads_feed (says status text) shelf shelf sink sink' result
says_given reads_feed status text shelf sink sink' result answers no_feed given =
    answered reads_feed (says status text) shelf shelf sink sink' (record { status = status; text = text }) result
    (record { tells = refl; held = λ told. refl }) refl answers no_feed (λ told. refl) given

pub yes_given : (text : List ℕ) (shelf : Shown) (sink sink' : Taken) (result : Status) → IsGiven Done text sink sink' result → Promises false (says Done text) shelf shelf sink sink' result
yes_given text shelf sink sink' result given = says_given false Done text shelf sink sink' result refl (λ line reason bad. cc) given
