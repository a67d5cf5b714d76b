-- What a session keeps of the records that it was handed. This is the project's own.
use Rattle.std.specs.Prelude.{◌≡◌, ℕ, ◌+◌, ◌-◌, ◌%◌, ◌^◌, ◌≤◌, ◌<◌, Bool, IsTrue, List, [], length, min, All, find, Option, Some, slice_get}
use Rattle.std.specs.List.{HoldsAt}
use Rattle.carrier_plan.specs.declared.plan.Carrier.{Carrier}
use Rattle.carrier_plan.specs.declared.plan.Flow.{Flow}
use Rattle.carrier_plan.specs.declared.plan.Plan.{Plan}
use Rattle.link_base.specs.Record.{Record}
use Rattle.link_receiver_blocks.specs.Containers.{mapping_of}
use Rattle.plan_checker.specs.Flows.{lists}
use Rattle.plan_checker.specs.Rules.{IsGood}
use Rattle.plan_checker.specs.Run.{delay_of, samples_before, ticks_of_run}
use Rattle.playout_buffer.specs.Received as buffer
use Rattle.roe_mappers.specs.Routes.{IsRoute}
use Rattle.link_receiver.specs.declared.carrier_in_hand.CarrierInHand.{CarrierInHand}
use Rattle.link_receiver.specs.declared.entry.Entry.{Entry}
use Rattle.link_receiver.specs.declared.flow_in_hand.FlowInHand.{FlowInHand}
use Rattle.link_receiver.specs.Containers.{containers_in_hand, control_of_frame}
use Rattle.link_receiver.specs.Output.{entries_before}
use Rattle.link_receiver.specs.Received.{taken}
use Rattle.link_receiver.specs.Records.{window_of, arrivals_of}
use Rattle.link_receiver.specs.Runs.{entries_of_kept, entries_of_before}

pub record SessionView : Type 0 where
  pub plan : Plan
  -- the ticks of the run
  pub frames : ℕ
  -- the present tick
  pub tick : ℕ
  -- of each flow, the packets that are held, and how many were received
  pub flows : List FlowInHand
  -- of each carrier, the block in hand, and the samples that left at the tick before
  pub carriers : List CarrierInHand
  -- the entries of these samples, where they are listed
  pub listed : Bool
  pub entries : List Entry
  -- the control word of the frame that was played at the tick before, if it was not missed
  pub control : Option (List ℕ)

-- the window of what is kept of a flow at tick t
pub record KeepsFlow (p : Plan) (h t : ℕ) (f : Flow) (kept : FlowInHand) : Type 0 where
  pub window : kept.playout.window ≡ window_of p f h
  pub tick : kept.playout.tick ≡ t

-- where the container of carrier number c is found, how its samples are mapped, and which of them leave next at tick t of a
-- run of h ticks
pub record KeepsCarrier (p : Plan) (h t c : ℕ) (carrier : Carrier) (kept : CarrierInHand) : Type 0 where
  pub flow : Flow
  pub at : slice_get p.flows kept.flow ≡ Some flow
  pub listed : find (lists c) p.flows ≡ Some flow
  pub block_frames : kept.block_frames ≡ carrier.k
  pub route : IsRoute p flow carrier kept.route
  pub mapping : kept.block.mapping ≡ mapping_of carrier
  pub room : length kept.samples.items ≡ 32
  pub few : kept.count ≤ 32
  pub next : kept.number + kept.count ≡ samples_before p c (min (t - delay_of p c) h)
  pub phase : length kept.block.containers ≡ (t - p.playout) % carrier.k

-- a carrier before the first tick
pub record IsBegunCarrier (p : Plan) (c : ℕ) (carrier : Carrier) (kept : CarrierInHand) : Type 0 where
  pub flow : Flow
  pub at : slice_get p.flows kept.flow ≡ Some flow
  pub listed : find (lists c) p.flows ≡ Some flow
  pub block_frames : kept.block_frames ≡ carrier.k
  pub route : IsRoute p flow carrier kept.route
  pub block : kept.block ≡ record { mapping = mapping_of carrier; containers = [] }
  pub room : length kept.samples.items ≡ 32
  pub number : kept.number ≡ 0
  pub count : kept.count ≡ 0

-- the carriers of a plan before that tick
pub record CarriersHaveBegun (p : Plan) (carriers : List CarrierInHand) : Type 0 where
  pub as_many : length carriers ≡ length p.carriers
  pub each : (c : ℕ) (carrier : Carrier) → slice_get p.carriers c ≡ Some carrier → HoldsAt (IsBegunCarrier p c carrier) carriers c

-- what holds of every session
pub record IsSession (s : SessionView) : Type 0 where
  pub good : IsGood s.plan
  pub few : s.frames ≤ 2 ^ 40
  pub present : s.tick ≤ ticks_of_run s.plan s.frames
  pub flows : (i : ℕ) (f : Flow) → slice_get s.plan.flows i ≡ Some f → HoldsAt (KeepsFlow s.plan s.frames s.tick f) s.flows i
  pub as_many_flows : length s.flows ≡ length s.plan.flows
  pub carriers : (c : ℕ) (carrier : Carrier) → slice_get s.plan.carriers c ≡ Some carrier → HoldsAt (KeepsCarrier s.plan s.frames s.tick c carrier) s.carriers c
  pub as_many_carriers : length s.carriers ≡ length s.plan.carriers

-- what is held and counted of a flow stands for these records
pub record StandsForFlow (p : Plan) (h : ℕ) (records : List Record) (f : Flow) (kept : FlowInHand) : Type 0 where
  pub held : buffer.HoldsReceived kept.playout (arrivals_of p f records)
  pub taken : kept.taken ≡ taken p f h records

-- what is in hand of a carrier of flow f at tick t stands for these records
pub record StandsForCarrier (p : Plan) (h t : ℕ) (records : List Record) (c : ℕ) (carrier : Carrier) (f : Flow) (kept : CarrierInHand) : Type 0 where
  pub containers : kept.block.containers ≡ containers_in_hand p f h records carrier (t - p.playout)
  pub entries : entries_of_kept (t - 1) c kept ≡ entries_of_before p h records t c

-- The session was handed these records, in this order, and none of them later than at the present tick.
pub record StandsFor (s : SessionView) (records : List Record) : Type 0 where
  pub arrived : All (λ r. r.tick ≤ s.tick) records
  pub flows : (i : ℕ) (f : Flow) → slice_get s.plan.flows i ≡ Some f → HoldsAt (StandsForFlow s.plan s.frames records f) s.flows i
  pub carriers : (c : ℕ) (carrier : Carrier) (f : Flow) → slice_get s.plan.carriers c ≡ Some carrier → find (lists c) s.plan.flows ≡ Some f
      → HoldsAt (StandsForCarrier s.plan s.frames s.tick records c carrier f) s.carriers c
  pub entries : IsTrue s.listed → s.entries ≡ entries_before s.plan s.frames records s.tick
  pub control : s.plan.playout < s.tick → s.control ≡ control_of_frame s.plan s.frames records (s.tick - 1 - s.plan.playout)
