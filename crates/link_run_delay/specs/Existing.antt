-- That there are octets of each packet of a stream, and which these are. This is the project's own.
use Rattle.std.specs.Prelude.{◌≡◌, ◌<◌, ℕ, List, All, Contains, Ok}
use Rattle.carrier_plan.specs.PlanOf.{plan_of}
use Rattle.carrier_plan.specs.declared.plan.Flow.{Flow}
use Rattle.carrier_plan.specs.declared.plan.Plan.{Plan}
use Rattle.link_sender.specs.Frames.{IsFrame}
use Rattle.link_sender.specs.Packets.{IsPacket}
use Rattle.link_sender.specs.Stream.{Stream, IsStream}
use Rattle.link_sender.specs.Whole.{frame_of, packet_of}
use Rattle.plan_checker.specs.Packets.{run_packets}
use Rattle.plan_checker.specs.Rules.{IsGood}

-- the numbers are octets
abbrev pub AreOctets : List ℕ → Type 0
AreOctets numbers = All (λ n. n < 256) numbers

-- the addresses of each flow consist of octets
abbrev pub AddressesAreOctets : Plan → Type 0
AddressesAreOctets p = All (λ (f : Flow). AreOctets f.dst × AreOctets f.src) p.flows

-- so do those of a plan that is read from text
abbrev pub ReadAddressesAreOctets : Type 0
ReadAddressesAreOctets = (octets : List ℕ) (p : Plan) → plan_of octets ≡ Ok p → AddressesAreOctets p

-- There is packet i of the flow, and it consists of octets where the flow's addresses do.
pub record HasPacket (p : Plan) (σ : Stream) (f : Flow) (i : ℕ) : Type 0 where
  pub octets : List ℕ
  pub packet : IsPacket p σ f i octets
  pub are_octets : AreOctets f.dst → AreOctets f.src → AreOctets octets

-- of a plan that meets the rules, in every mode, whatever the stream
abbrev pub PacketsExist : Type 0
PacketsExist =
    (p : Plan) (h : ℕ) (σ : Stream) (f : Flow) (i : ℕ) → IsGood p → IsStream p h σ → Contains p.flows f → i < run_packets p f h → HasPacket p σ f i

-- The frames and packets of a stream that are written out as lists are its frames and packets.
abbrev pub FramesAreThose : Type 0
FramesAreThose = (p : Plan) (h : ℕ) (σ : Stream) (n : ℕ) → IsGood p → IsStream p h σ → IsFrame p σ n (frame_of p σ n)

abbrev pub PacketsAreThose : Type 0
PacketsAreThose =
    (p : Plan) (h : ℕ) (σ : Stream) (f : Flow) (i : ℕ) → IsGood p → IsStream p h σ → Contains p.flows f → i < run_packets p f h → IsPacket p σ f i (packet_of p σ f i)
