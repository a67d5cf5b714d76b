-- The promise of `check`: yes exactly of a plan that meets the rules, and else its first failure. This is the project's own.
use Rattle.std.specs.Prelude.{◌≡◌, ℕ, IsTrue, List, Some, Ok}
use Rattle.std.specs.FinMap.{get}
use Rattle.link_base.specs.Shelf.{Files}
use Rattle.link_base.specs.Sink.{Taken, Appends}
use Rattle.carrier_plan.specs.PlanOf.{plan_of}
use Rattle.carrier_plan.specs.declared.plan.Plan.{Plan}
use Rattle.plan_checker.specs.Rules.{IsGood, IsFirstFailure}
use Rattle.link_run_feed.specs.declared.status.Status.{Status}
use Rattle.link_run_feed.specs.declared.status.Status.TheVariants.{Done, No}
use Rattle.link_run_feed.specs.Answer.{is_answer}
use Rattle.link_run_plan.specs.Texts.{yes_text, no_text}

pub record ChecksPlan (name : List ℕ) (held : Files) (old new : Taken) (status : Status) : Type 0 where
  pub yes : status ≡ Done → (octets : List ℕ) × (p : Plan) × (get held name ≡ Some octets) × (plan_of octets ≡ Ok p) × IsGood p × Appends (yes_text p) old new
  pub only_yes : (octets : List ℕ) (p : Plan) → get held name ≡ Some octets → plan_of octets ≡ Ok p → IsGood p → IsTrue (is_answer status) → status ≡ Done
  pub first : (rule item : ℕ) → status ≡ No rule item
      → (octets : List ℕ) × (p : Plan) × (get held name ≡ Some octets) × (plan_of octets ≡ Ok p) × IsFirstFailure p rule item × Appends (no_text rule item) old new
