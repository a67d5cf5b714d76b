-- What the calls that read and judge a plan leave. This is the project's own.
use Rattle.std.specs.Prelude.{◌≡◌, ◌≢◌, ◌⊎◌, ℕ, Bool, true, IsTrue, List, Result, Ok, Err}
use Rattle.link_base.specs.Shelf.{Files, Shown, SameFiles}
use Rattle.link_base.specs.Sink.{Taken}
use Rattle.carrier_plan.specs.declared.plan.Plan.{Plan}
use Rattle.carrier_plan.specs.declared.fault.PlanText as fault
use Rattle.plan_checker.specs.Verdict.{verdict_of}
use Rattle.plan_checker.specs.Verdict.Verdict.{Good}
use Rattle.link_run_feed.specs.declared.reason.Reason.{Reason}
use Rattle.link_run_feed.specs.declared.status.Status.{Status}
use Rattle.link_run_feed.specs.declared.status.Status.TheVariants.{FeedBad, NoMemory}
use Rattle.link_run_feed.specs.Answer.{Answer, is_answer}
use Rattle.link_run_feed.specs.Course.{Course, says, after_whole}
use Rattle.link_run_feed.specs.Given.{IsGiven}
use Rattle.link_run_feed.specs.Promises.{Promises}
use Rattle.link_run_plan.specs.OnPlan.{by_plan, on_plan}

-- What was read is a plan that meets the rules, and nothing was written.
pub record Passes (read : Result Plan fault.PlanText) (p : Plan) (sink sink' : Taken) : Type 0 where
  pub is_read : read ≡ Ok p
  pub computed : verdict_of p ≡ Good
  pub same : sink' ≡ sink

-- The answer to what is no plan, or none that meets the rules, was given.
pub record Refuses (read : Result Plan fault.PlanText) (sink sink' : Taken) (result : Status) : Type 0 where
  pub answer : Answer
  pub answers : is_answer answer.status ≡ true
  pub no_feed : (line : ℕ) (reason : Reason) → answer.status ≢ FeedBad line reason
  pub course : (rest : Plan → Files → Course) (held : Files) → by_plan read rest held ≡ says answer.status answer.text
  pub given : IsGiven answer.status answer.text sink sink' result

-- Memory was wanting, and nothing was written.
pub record Wants (sink sink' : Taken) (result : Status) : Type 0 where
  pub status : result ≡ NoMemory
  pub same : sink' ≡ sink

-- What was read was judged.
abbrev pub IsJudged : Result Plan fault.PlanText → Taken → Taken → Result Plan Status → Type 0
IsJudged read sink sink' (Ok p) = Passes read p sink sink'
IsJudged read sink sink' (Err status) = Wants sink sink' status ⊎ Refuses read sink sink' status

-- The plan of this name meets the rules, and a call goes on by it.
pub record GoesOnBy (name : List ℕ) (p : Plan) (shelf shelf' : Shown) (sink sink' : Taken) : Type 0 where
  pub files : SameFiles shelf shelf'
  pub faults : shelf'.faults ≡ shelf.faults
  pub same : sink' ≡ sink
  pub course : IsTrue shelf.tells → (rest : Plan → Files → Course) → on_plan name rest shelf.held ≡ after_whole name (rest p shelf.held)
  -- what the rest of the call promises, the whole call promises
  pub promises : (reads_feed : Bool) (rest : Plan → Files → Course) (now : Shown) (taken : Taken) (status : Status)
      → Promises reads_feed (rest p shelf'.held) shelf' now sink' taken status → Promises reads_feed (on_plan name rest shelf.held) shelf now sink taken status

-- The call ended at the plan, whatever was to follow.
abbrev pub EndsAtPlan : List ℕ → Shown → Shown → Taken → Taken → Status → Type 0
EndsAtPlan name shelf shelf' sink sink' status =
    (reads_feed : Bool) (rest : Plan → Files → Course) → Promises reads_feed (on_plan name rest shelf.held) shelf shelf' sink sink' status
