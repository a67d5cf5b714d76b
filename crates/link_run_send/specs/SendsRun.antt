-- What a run that is sent stands for. This is the project's own.
use Rattle.std.specs.Prelude.{◌≡◌}
use Rattle.line_code.specs.declared.characters.Rd.{Rd}
use Rattle.link_sender.specs.Senders.{SenderView, StandsFor}
use Rattle.link_sender.specs.Stream.{Stream}
use Rattle.link_sender.specs.Whole.{disparity_before}
use Rattle.plan_checker.specs.Rules.{IsGood}
use Rattle.link_run_send.specs.declared.run_output.Output.{Output}
use Rattle.link_run_send.specs.declared.run_output.Output.TheVariants.{Symbols}

-- The sender was handed this stream. Where symbols are written, the disparity is that before its next frame.
pub record SendsRun (sender : SenderView) (output : Output) (rd : Rd) (σ : Stream) : Type 0 where
  pub good : IsGood sender.plan
  pub stands : StandsFor sender σ
  pub spelled : output ≡ Symbols → rd ≡ disparity_before sender.plan σ sender.tick

-- The run stays the same, and the samples that were handed in.
pub record KeepsSender (old new : SenderView) : Type 0 where
  pub plan : new.plan ≡ old.plan
  pub frames : new.frames ≡ old.frames
  pub announcement : new.announcement ≡ old.announcement
  pub handed : new.handed ≡ old.handed
