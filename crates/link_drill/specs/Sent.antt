-- The packets of a drill, and what a sender was handed on the way to them. This is the project's own.
use Rattle.std.specs.Prelude.{ℕ, ◌≡◌, ◌+◌, ◌*◌, ◌<◌, ◌≤◌, List, [], length, map}
use Rattle.std.specs.List.{range_with_len}
use Rattle.carrier_plan.specs.declared.plan.Flow.{Flow}
use Rattle.carrier_plan.specs.declared.plan.Plan.{Plan}
use Rattle.link_sender.specs.Senders.{SenderView, StandsFor}
use Rattle.link_sender.specs.Stream.{Stream, samples_of}
use Rattle.link_sender.specs.Whole.{packet_of}
use Rattle.plan_checker.specs.WordSize.{IsLineOption}
use Rattle.sample_bits.specs.declared.iq.RawIq.{RawIq}
use Rattle.link_drill.specs.DrillPlan.{drill_plan}
use Rattle.link_drill.specs.DrillStream.{carrier_samples, drill_announcement}

-- the octets of the first packets of the flow
unfoldable pub packets_of : Plan → Stream → Flow → (count : ℕ) → List (List ℕ)
packets_of p σ f count = map (packet_of p σ f) (range_with_len 0 count)

-- The sender is in a run of 256 ticks of the plan of its option.
pub record IsRun (s : SenderView) : Type 0 where
  pub plan : s.plan ≡ drill_plan s.plan.option
  pub known : IsLineOption s.plan.option
  pub frames : s.frames ≡ 256

-- The sender was handed the samples of the ticks below n, and of tick n those of the carriers below c.
pub record HasSent (s : SenderView) (Y : ℕ) (drawn : List RawIq) (n c : ℕ) : Type 0 where
  pub stream : Stream
  pub stands : StandsFor s stream
  pub announcement : stream.announcement ≡ drill_announcement
  pub slow : stream.slow ≡ []
  pub fast : stream.fast ≡ []
  pub as_many : length stream.samples ≡ Y
  pub done : (k : ℕ) → k < c → samples_of stream k ≡ carrier_samples Y drawn k (4 * (n + 1))
  pub due : (k : ℕ) → c ≤ k → k < Y → samples_of stream k ≡ carrier_samples Y drawn k (4 * n)
