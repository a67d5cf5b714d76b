-- What a replay that is done has printed: all samples of the run, each after its delay, and the management frames. This is the
-- project's own.
use Rattle.std.specs.Prelude.{◌≡◌, ℕ, List}
use Rattle.link_base.specs.Shelf.{Files}
use Rattle.link_base.specs.Sink.{Taken}
use Rattle.link_receiver.specs.Output.{all_entries}
use Rattle.link_run_delay.specs.Delay.{AreUnaltered, AreFresh, PlaysStream}
use Rattle.link_run_delay.specs.ManagementArrives.{IsControlWhole}
use Rattle.link_run_replay.specs.WholeText.{ReplaysCapture}
use Rattle.link_sender.specs.Stream.{Stream, IsStream}
use Rattle.link_run.specs.Arrives.{PrintsManagement}

-- The plan holds, and the whole text of the run was written. Of a stream whose packets the records are, each sample was
-- printed unchanged after its delay, or marked where packets that carry a bit of it are lost. If the capture announces the
-- stream's channels, and no frame of the run is missed in the flow that has control, each management frame that is whole within
-- the run was printed, and nothing else about the channels.
pub record PlaysCapture (plan capture : List ℕ) (held : Files) (old new : Taken) : Type 0 where
  pub replays : ReplaysCapture plan capture held old new
  pub plays : (σ : Stream) → IsStream replays.p replays.header.run_ticks σ → AreUnaltered replays.p replays.header.run_ticks σ replays.records → AreFresh replays.p replays.header.run_ticks σ replays.records
      → PlaysStream replays.p replays.header.run_ticks σ replays.records (all_entries replays.p replays.header.run_ticks replays.records)
  pub arrives : (σ : Stream) → IsStream replays.p replays.header.run_ticks σ → AreUnaltered replays.p replays.header.run_ticks σ replays.records → AreFresh replays.p replays.header.run_ticks σ replays.records
      → σ.announcement ≡ replays.header.announce → IsControlWhole replays.p replays.header.run_ticks replays.records
      → PrintsManagement replays.p replays.header.run_ticks σ replays.records
