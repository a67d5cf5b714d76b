-- What a capture of one stream's packets plays: each sample unchanged, a fixed number of basic frames later, or marked
-- where packets that carry a bit of it are lost. This is the project's own.
use Rattle.std.specs.Prelude.{◌≡◌, ◌==◌, ◌&&◌, ℕ, ◌+◌, ◌*◌, ◌/◌, ◌<◌, Bool, IsTrue, List, length, All, Contains, count_by, Option, Some, None, Ok, slice_get}
use Rattle.carrier_plan.specs.declared.plan.Carrier.{Carrier}
use Rattle.carrier_plan.specs.declared.plan.Flow.{Flow}
use Rattle.carrier_plan.specs.declared.plan.Plan.{Plan}
use Rattle.carrier_plan.specs.PlanOf.{plan_of}
use Rattle.link_receiver.specs.declared.entry.Entry.{Entry}
use Rattle.link_receiver.specs.Output.{all_entries}
use Rattle.link_base.specs.Record.{Record}
use Rattle.link_receiver.specs.Records.{IsOfFlow, arrival_of, window_of}
use Rattle.link_sender.specs.Packets.{IsPacket}
use Rattle.link_sender.specs.Stream.{Stream, IsStream, sample_at}
use Rattle.plan_checker.specs.Flows.{lists}
use Rattle.playout_buffer.specs.Candidate.{IsCandidate}
use Rattle.playout_buffer.specs.Received.{Arrival}
use Rattle.plan_checker.specs.Packets.{run_packets}
use Rattle.plan_checker.specs.Place.{place_of}
use Rattle.plan_checker.specs.Rules.{IsGood}
use Rattle.plan_checker.specs.Run.{IsDue, delay_of}
use Rattle.link_base.specs.Window.{IsOpen}
use Rattle.sample_bits.specs.declared.iq.RawIq.{RawIq}

-- the octets are a packet of the stream in this flow
abbrev pub IsOfStream : Plan → ℕ → Stream → Flow → List ℕ → Type 0
IsOfStream p h σ f octets = (i : ℕ) × (i < run_packets p f h) × IsPacket p σ f i octets

-- each record of a flow is a packet of the stream
abbrev pub AreUnaltered : Plan → ℕ → Stream → List Record → Type 0
AreUnaltered p h σ records = All (λ r. (f : Flow) → Contains p.flows f → IsOfFlow p f r.octets → IsOfStream p h σ f r.octets) records

-- each record that fits a flow and is taken for a packet is that packet, and no other with its sequence number
abbrev pub AreFresh : Plan → ℕ → Stream → List Record → Type 0
AreFresh p h σ records =
    All (λ r. (f : Flow) (i : ℕ) (a : Arrival) → Contains p.flows f → arrival_of p f r ≡ Some a → IsCandidate (window_of p f h) a.tick a.seq i
    → IsPacket p σ f i r.octets) records

-- no record at a tick of its window is packet i
abbrev pub IsLost : Plan → Stream → Flow → List Record → ℕ → Type 0
IsLost p σ f records i = All (λ r. IsOpen f.frames f.lmin f.lmax r.tick i → ¬ IsPacket p σ f i r.octets) records

-- a bit of sample j of the carrier stands in a frame of a lost packet
pub record LosesBit (p : Plan) (σ : Stream) (f : Flow) (records : List Record) (carrier : Carrier) (j : ℕ) : Type 0 where
  pub place : ℕ
  pub within : place < 2 * carrier.m
  pub lost : IsLost p σ f records ((place_of carrier j place).frame / f.frames)

-- the sample as it was handed in, or marked where it loses a bit
abbrev pub IsValue : Plan → Stream → Flow → List Record → ℕ → Carrier → ℕ → Option RawIq → Type 0
IsValue p σ f records c carrier j None = LosesBit p σ f records carrier j
IsValue p σ f records c carrier j (Some sample) = (sample ≡ sample_at σ c j) × ¬ LosesBit p σ f records carrier j

-- the entry is that of sample j of carrier c, which was handed in at tick n
pub record IsPlayed (p : Plan) (σ : Stream) (records : List Record) (c n j : ℕ) (entry : Entry) : Type 0 where
  pub tick : entry.tick ≡ n + delay_of p c
  pub value : (carrier : Carrier) (f : Flow) → slice_get p.carriers c ≡ Some carrier → Contains p.flows f → IsTrue (lists c f)
      → IsValue p σ f records c carrier j entry.value

-- whether an entry tells of sample j of carrier c
abbrev pub tells_of : ℕ → ℕ → Entry → Bool
tells_of c j entry = entry.carrier == c && entry.number == j

-- There is one entry of the sample, and it is right.
pub record PlaysSample (p : Plan) (σ : Stream) (records : List Record) (entries : List Entry) (c n j : ℕ) : Type 0 where
  pub once : count_by (tells_of c j) entries ≡ 1
  pub played : All (λ entry. IsTrue (tells_of c j entry) → IsPlayed p σ records c n j entry) entries

-- each sample that is handed in at a tick of the run is played
abbrev pub PlaysStream : Plan → ℕ → Stream → List Record → List Entry → Type 0
PlaysStream p h σ records entries =
    (c n j : ℕ) → c < length p.carriers → n < h → IsDue p c n j → PlaysSample p σ records entries c n j

-- the addresses of each flow have six octets
pub record IsPlain (p : Plan) : Type 0 where
  pub dst : All (λ (f : Flow). length f.dst ≡ 6) p.flows
  pub src : All (λ (f : Flow). length f.src ≡ 6) p.flows

-- Of a plan that meets the rules, whatever the stream and the capture.
abbrev pub SamplesAreDelayed : Type 0
SamplesAreDelayed =
    (p : Plan) (h : ℕ) (σ : Stream) (records : List Record) → IsGood p → IsPlain p → IsStream p h σ
    → AreUnaltered p h σ records → AreFresh p h σ records → PlaysStream p h σ records (all_entries p h records)

-- A plan that is read from text has addresses of six octets.
abbrev pub ReadPlansArePlain : Type 0
ReadPlansArePlain = (octets : List ℕ) (p : Plan) → plan_of octets ≡ Ok p → IsPlain p
