-- What a call of `send` or `line` that is done has written. This is the project's own.
use Rattle.std.specs.Prelude.{◌≡◌, ℕ, List, Some, true, Ok, IsTrue}
use Rattle.std.specs.FinMap.{get}
use Rattle.carrier_plan.specs.PlanOf.{plan_of}
use Rattle.carrier_plan.specs.declared.plan.Plan.{Plan}
use Rattle.link_base.specs.Shelf.{Files, Shown}
use Rattle.link_base.specs.Sink.{Appends, Taken}
use Rattle.link_run_feed.specs.Promises.{Promises}
use Rattle.link_run_feed.specs.declared.status.Status.{Status}
use Rattle.link_run_feed.specs.declared.status.Status.TheVariants.{Done}
use Rattle.link_run_plan.specs.OnPlan.{on_plan}
use Rattle.plan_checker.specs.Rules.{IsGood}
use Rattle.link_run_send.specs.Send.{send_by}
use Rattle.link_run_send.specs.WholeText.{IsWholeText}
use Rattle.link_run_send.specs.declared.run_output.Output.{Output}

-- The plan holds, and the whole text of the file of samples was written.
pub record SendsFile (output : Output) (plan samples : List ℕ) (held : Files) (old new : Taken) : Type 0 where
  pub octets : List ℕ
  pub p : Plan
  pub held_plan : get held plan ≡ Some octets
  pub is_plan : plan_of octets ≡ Ok p
  pub good : IsGood p
  pub feed : List ℕ
  pub held_samples : get held samples ≡ Some feed
  pub text : List ℕ
  pub is_whole : IsWholeText output p feed text
  pub written : Appends text old new

-- A call that keeps its promises and is done has written the whole text.
abbrev pub FilesAreSent : Type 0
FilesAreSent =
    (output : Output) (plan samples : List ℕ) (shelf shelf' : Shown) (sink sink' : Taken) (status : Status)
    → Promises true (on_plan plan (send_by output samples) shelf.held) shelf shelf' sink sink' status → IsTrue shelf.tells → status ≡ Done
    → SendsFile output plan samples shelf.held sink sink'
