-- What the call `replay` answers where its capture is what the call `send` wrote. This is the project's own.
use Rattle.std.specs.Prelude.{◌≡◌, List, ℕ, Some, Ok}
use Rattle.std.specs.FinMap.{get}
use Rattle.carrier_plan.specs.PlanOf.{plan_of}
use Rattle.carrier_plan.specs.declared.plan.Plan.{Plan}
use Rattle.link_base.specs.Shelf.{Files}
use Rattle.link_run_capture.specs.declared.header.Header.{Header}
use Rattle.link_run_feed.specs.declared.status.Status.TheVariants.{Done}
use Rattle.link_run_replay.specs.Replay.{replay}
use Rattle.link_run_send.specs.SampleFile.{IsSampleFile, stream_of}
use Rattle.link_run_send.specs.Send.{send}
use Rattle.link_sender.specs.Stream.{IsStream}
use Rattle.plan_checker.specs.Rules.{IsGood}
use Rattle.link_run_laws.specs.SentAreReplayed.{whole_replay}

-- The plan holds, the samples are a whole file, and all of the stream of its lines is printed.
pub record IsReplayedWhole (plan samples capture : List ℕ) (held held' : Files) : Type 0 where
  pub octets : List ℕ
  pub p : Plan
  pub held_plan : get held plan ≡ Some octets
  pub is_plan : plan_of octets ≡ Ok p
  pub good : IsGood p
  pub file : List ℕ
  pub header : Header
  pub lines : List (List ℕ)
  pub held_samples : get held samples ≡ Some file
  pub is_file : IsSampleFile p file header lines
  pub is_stream : IsStream p header.run_ticks (stream_of p header lines)
  pub answer : (replay plan capture held').answer ≡ record { status = Done; text = whole_replay p header.run_ticks (stream_of p header lines) }

-- Whatever files are held: where `send` is done, and the same plan and what it wrote are held then.
abbrev pub SendIsReplayed : Type 0
SendIsReplayed =
    (plan samples capture : List ℕ) (held held' : Files) → (send plan samples held).answer.status ≡ Done → get held' plan ≡ get held plan
    → get held' capture ≡ Some (send plan samples held).answer.text → IsReplayedWhole plan samples capture held held'
