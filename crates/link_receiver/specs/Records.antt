-- The records of a capture that are packets of a flow. This is the project's own.
use Rattle.std.specs.Prelude.{◌≡◌, ◌==◌, ◌&&◌, ℕ, ◌*◌, Bool, IsTrue, List, length, filter_map, Option, Some, None, Result, Ok, Err, if◌then◌else◌}
use Rattle.carrier_plan.specs.declared.plan.Flow.{Flow}
use Rattle.carrier_plan.specs.declared.plan.Plan.{Plan}
use Rattle.link_base.specs.Record.{Record}
use Rattle.plan_checker.specs.Flows.{octets_of_frame}
use Rattle.plan_checker.specs.Packets.{subtype_of, run_packets}
use Rattle.playout_buffer.specs.Received.{Arrival}
use Rattle.playout_buffer.specs.declared.window.Window.{Window}
use Rattle.roe_header.specs.Layout.{Fields, parsed}
use Rattle.roe_header.specs.declared.packet.NotRoe.{NotRoe}

-- whether a packet is of the flow: its subtype is that of the mode, and its flow id the flow's
abbrev pub is_of_flow : Plan → Flow → Fields → Bool
is_of_flow p f packet = packet.sub == subtype_of p.mode && packet.flow == f.id

-- whether its payload besides has the length that the flow's packets have
abbrev pub fits : Plan → Flow → Fields → Bool
fits p f packet = is_of_flow p f packet && length packet.payload == f.frames * octets_of_frame p f

-- the octets are a packet of the flow
abbrev pub IsOfFlow : Plan → Flow → List ℕ → Type 0
IsOfFlow p f octets = (packet : Fields) × (parsed octets ≡ Ok packet) × IsTrue (is_of_flow p f packet)

-- the packets of the flow in a run of h ticks
abbrev pub window_of : Plan → Flow → ℕ → Window
window_of p f h = record {
  frames = f.frames;
  lmin = f.lmin;
  lmax = f.lmax;
  playout = p.playout;
  cap = f.cap;
  p = f.p;
  q = f.q;
  octets = octets_of_frame p f;
  packets = run_packets p f h;
}

-- a packet at tick t that fits the flow, as a payload that arrives
abbrev pub arrival_by : Plan → Flow → ℕ → Result Fields NotRoe → Option Arrival
arrival_by p f t (Err reason) = None
arrival_by p f t (Ok packet) =
    if fits p f packet then Some (record { tick = t; seq = packet.seq; payload = packet.payload }) else None

abbrev pub arrival_of : Plan → Flow → Record → Option Arrival
arrival_of p f r = arrival_by p f r.tick (parsed r.octets)

-- the payloads that arrive for the flow
abbrev pub arrivals_of : Plan → Flow → List Record → List Arrival
arrivals_of p f records = filter_map (arrival_of p f) records
