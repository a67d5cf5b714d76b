-- The records of a capture in which nothing is lost: all packets of a stream, each at the tick at which its window opens. This is
-- the project's own.
use Rattle.std.specs.Prelude.{ℕ, List, map}
use Rattle.std.specs.List.{flat_map, range_with_len}
use Rattle.carrier_plan.specs.declared.plan.Flow.{Flow}
use Rattle.carrier_plan.specs.declared.plan.Plan.{Plan}
use Rattle.link_base.specs.Record.{Record}
use Rattle.link_run_send.specs.SentText.{opening_at}
use Rattle.link_sender.specs.Stream.{Stream}
use Rattle.link_sender.specs.Whole.{packet_of}
use Rattle.plan_checker.specs.Run.{ticks_of_run}

-- the packets of a flow whose windows open at tick t
unfoldable pub flow_records : Plan → ℕ → Stream → ℕ → Flow → List Record
flow_records p h σ t f = map (λ i. record { tick = t; octets = packet_of p σ f i }) (opening_at p h f t)

-- the same of all flows
unfoldable pub tick_records : Plan → ℕ → Stream → ℕ → List Record
tick_records p h σ t = flat_map (flow_records p h σ t) p.flows

-- all packets of a run of h ticks, by tick, then the flow's place, then the packet's number
unfoldable pub sent_records : Plan → ℕ → Stream → List Record
sent_records p h σ = flat_map (tick_records p h σ) (range_with_len 0 (ticks_of_run p h))
