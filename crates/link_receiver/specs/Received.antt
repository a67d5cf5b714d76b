-- What is received of a capture, and which frames are missed. This is the project's own.
use Rattle.std.specs.Prelude.{ℕ, Bool, true, List, Option, Some, None}
use Rattle.std.specs.Option.{is_some}
use Rattle.carrier_plan.specs.declared.plan.Flow.{Flow}
use Rattle.carrier_plan.specs.declared.plan.Plan.{Plan}
use Rattle.link_base.specs.Record.{Record}
use Rattle.playout_buffer.specs.Received as buffer
use Rattle.roe_mappers.specs.Symbols.{bad_symbol}
use Rattle.link_receiver.specs.Records.{window_of, arrivals_of}

-- the payload of packet i: that of the first record that fits the flow and whose candidate is packet i
abbrev pub received : Plan → Flow → ℕ → List Record → ℕ → Option (List ℕ)
received p f h records i = buffer.received (window_of p f h) (arrivals_of p f records) i

-- the octets of frame n, where its packet is received
unfoldable pub part_of_frame : Plan → Flow → ℕ → List Record → ℕ → Option (List ℕ)
part_of_frame p f h records n = buffer.part_received (window_of p f h) (arrivals_of p f records) n

-- whether a frame is missed, by its octets: they did not arrive, or one of their symbols is bad
abbrev pub is_missed_by : Plan → ℕ → Option (List ℕ) → Bool
is_missed_by p n None = true
is_missed_by p n (Some part) = is_some (bad_symbol p.mode n part)

-- whether frame n is missed
abbrev pub is_missed : Plan → Flow → ℕ → List Record → ℕ → Bool
is_missed p f h records n = is_missed_by p n (part_of_frame p f h records n)

-- how many packets are received
unfoldable pub taken : Plan → Flow → ℕ → List Record → ℕ
taken p f h records = buffer.taken (window_of p f h) (arrivals_of p f records)
