-- The answer of `check` to octets, from what judging them and telling the verdict leave.
use Rattle.std.proofs.Common.{IsTrue, ◌≡◌, ℕ, List, [], inl, inr, refl, sym, ap, subst, ◌∙◌, Some}
use Rattle.std.specs.Prelude.{Err}
use Rattle.link_base.specs.Shelf.{Files}
use Rattle.link_base.specs.Sink.{Taken}
use Rattle.carrier_plan.specs.PlanOf.{plan_of}
use Rattle.carrier_plan.specs.declared.plan.Plan.{Plan}
use Rattle.link_run_feed.specs.declared.status.Status.{Status}
use Rattle.link_run_feed.specs.declared.status.Status.TheVariants.{Done, WriteFault, NoMemory}
use Rattle.link_run_feed.specs.Course.{Course, says, on_octets}
use Rattle.link_run_feed.specs.Given.{IsGiven}
use Rattle.link_run_plan.specs.OfOctets.{AnswersFile, IsTold, is_verdict, took}
use Rattle.link_run_plan.specs.OnPlan.{by_plan, by_octets, on_plan}
use Rattle.link_run_plan.specs.PlanCalls.{Passes, IsJudged}
use Rattle.link_run_plan.specs.Texts.{yes_text}
use Rattle.link_run_plan.proofs.PlanCases.{good_course}

abbrev rest : Plan → Files → Course
rest p held = says Done (yes_text p)

write_fault_is_none : (status : Status) → status ≡ WriteFault → ¬ IsTrue (is_verdict status)
write_fault_is_none status is told = let no : IsTrue (is_verdict WriteFault) = subst (λ s. IsTrue (is_verdict s)) is told in cc

want_is_none : (status : Status) → status ≡ NoMemory → ¬ IsTrue (is_verdict status)
want_is_none status is told = let no : IsTrue (is_verdict NoMemory) = subst (λ s. IsTrue (is_verdict s)) is told in cc

module _ (octets : List ℕ) where
  -- how a file with these octets is answered
  answers_by : (status : Status) (text : List ℕ) → ((held : Files) → by_plan (plan_of octets) rest held ≡ says status text) → AnswersFile octets status text
  unfolding on_plan
  answers_by status text course = λ name held here.
      ap (λ found. (on_octets (by_octets rest) held found).answer) here ∙ ap (λ (c : Course). c.answer) (course held)

  told_with : (answer status : Status) (text : List ℕ) (sink sink' : Taken) → AnswersFile octets answer text → IsGiven answer text sink sink' status → IsTrue (is_verdict status)
      → IsTold octets sink sink' status
  told_with answer status text sink sink' answers (inl whole) told =
      record { text = text; answers = subst (λ s. AnswersFile octets s text) (sym whole.status) answers; written = whole.written }
  told_with answer status text sink sink' answers (inr cut) told = absurd (write_fault_is_none status cut.status told)

  pub yes_told : (p : Plan) (sink mid sink' : Taken) (status : Status) → Passes (plan_of octets) p sink mid → IsGiven Done (yes_text p) mid sink' status
      → IsTrue (is_verdict status) → IsTold octets sink sink' status
  yes_told p sink mid sink' status passes given told =
      told_with Done status (yes_text p) sink sink'
      (answers_by Done (yes_text p) (λ held. good_course rest held (Some octets) octets p refl passes.is_read passes.computed))
      (subst (λ s. IsGiven Done (yes_text p) s sink' status) passes.same given) told

  pub other_told : (sink sink' : Taken) (status : Status) → IsJudged (plan_of octets) sink sink' (Err status) → IsTrue (is_verdict status) → IsTold octets sink sink' status
  other_told sink sink' status (inl wants) told = absurd (want_is_none status wants.status told)
  other_told sink sink' status (inr refuses) told =
      told_with refuses.answer.status status refuses.answer.text sink sink' (answers_by refuses.answer.status refuses.answer.text (refuses.course rest)) refuses.given told

  -- the text is what a sink took that was empty
  pub answers_with : (sink' : Taken) (status : Status) → IsTold octets (took []) sink' status → AnswersFile octets status sink'.written
  answers_with sink' status told = subst (AnswersFile octets status) (sym (told.written.written refl)) told.answers
