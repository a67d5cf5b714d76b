-- What a replay has printed about the management channels of a stream, where no control word is missed. This is the project's own.
use Rattle.std.specs.Prelude.{◌≡◌, ℕ, ◌+◌, ◌-◌, ◌<◌, nat_le, if◌then◌else◌, List, []}
use Rattle.carrier_plan.specs.declared.plan.Plan.{Plan}
use Rattle.link_base.specs.Record.{Record}
use Rattle.link_run_delay.specs.ManagementArrives.{ManagementIsPrinted, arriving_lines}
use Rattle.link_run_replay.specs.RunText.{management_lines}
use Rattle.link_sender.specs.Stream.{Stream}
use Rattle.plan_checker.specs.Run.{longest_block, ticks_of_run}
use Rattle.plan_checker.specs.WordSize.{word_size}

-- the lines of the management frames that are whole with the frame that is played at a tick, if there is one
abbrev pub lines_at : Plan → Stream → ℕ → List ℕ
lines_at p σ t = if nat_le p.playout t then arriving_lines (word_size p.option) σ t (t - p.playout) else []

-- What is printed about the channels in a run of h ticks whose control words announce what the stream does.
pub record PrintsManagement (p : Plan) (h : ℕ) (σ : Stream) (records : List Record) : Type 0 where
  -- at each tick of the run those lines, and no others
  pub ticks : (t : ℕ) → t < ticks_of_run p h → management_lines p h σ.announcement records t ≡ lines_at p σ t
  -- in all one line for each management frame that is whole within the run, in order
  pub frames : ManagementIsPrinted p h σ records (h + longest_block p)
