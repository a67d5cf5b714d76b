-- Of the frames and packets of a stream: what later samples do not change, and that no others are the stream's. This is the
-- project's own.
use Rattle.std.specs.Prelude.{ℕ, ◌≡◌, ◌+◌, ◌*◌, ◌/◌, ◌<◌, List, slice_get, Some}
use Rattle.carrier_plan.specs.declared.plan.Carrier.{Carrier}
use Rattle.carrier_plan.specs.declared.plan.Flow.{Flow}
use Rattle.carrier_plan.specs.declared.plan.Plan.{Plan}
use Rattle.plan_checker.specs.Rules.{IsGood}
use Rattle.link_sender.specs.Frames.{IsFrame}
use Rattle.link_sender.specs.Packets.{IsPacket}
use Rattle.link_sender.specs.Stream.{Stream, sample_at}
use Rattle.link_sender.specs.Whole.{frame_of, packet_of}

-- Both streams have the samples of all blocks that are handed in before tick n, and the same channels.
pub record AgreesBefore (p : Plan) (n : ℕ) (σ τ : Stream) : Type 0 where
  pub announcement : τ.announcement ≡ σ.announcement
  pub slow : τ.slow ≡ σ.slow
  pub fast : τ.fast ≡ σ.fast
  pub samples : (c : ℕ) (carrier : Carrier) (j : ℕ) → slice_get p.carriers c ≡ Some carrier → j < n / carrier.k * carrier.s → sample_at τ c j ≡ sample_at σ c j

-- A frame carries samples of blocks that are handed in before its tick, and no others.
abbrev pub FramesAreSettled : Type 0
FramesAreSettled = (p : Plan) (σ τ : Stream) (n : ℕ) (octets : List ℕ) → IsGood p → AgreesBefore p n σ τ → IsFrame p σ n octets → IsFrame p τ n octets

-- The frames of a packet are made by the tick of the last one.
abbrev pub PacketsAreSettled : Type 0
PacketsAreSettled =
    (p : Plan) (σ τ : Stream) (f : Flow) (i : ℕ) (octets : List ℕ) → IsGood p → AgreesBefore p ((i + 1) * f.frames) σ τ → IsPacket p σ f i octets → IsPacket p τ f i octets

-- A frame of a stream has one spelling.
abbrev pub FramesAreDetermined : Type 0
FramesAreDetermined = (p : Plan) (σ : Stream) (n : ℕ) (octets : List ℕ) → IsGood p → IsFrame p σ n octets → octets ≡ frame_of p σ n

-- A packet of a stream has one spelling.
abbrev pub PacketsAreDetermined : Type 0
PacketsAreDetermined = (p : Plan) (σ : Stream) (f : Flow) (i : ℕ) (octets : List ℕ) → IsGood p → IsPacket p σ f i octets → octets ≡ packet_of p σ f i
