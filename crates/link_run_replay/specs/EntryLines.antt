-- The samples that leave and the counts of the flows, in the text that is printed of them. The text is this project's own.
use Rattle.std.specs.Prelude.{codes, decimal, ℕ, ◌-◌, List, [], ◌∷◌, ◌++◌, length, slice_get, Option, Some, None}
use Rattle.std.specs.List.{flat_map, range_with_len}
use Rattle.carrier_plan.specs.declared.plan.Flow.{Flow}
use Rattle.carrier_plan.specs.declared.plan.Plan.{Plan}
use Rattle.plan_checker.specs.Packets.{run_packets}
use Rattle.link_base.specs.Record.{Record}
use Rattle.link_receiver.specs.declared.entry.Entry.{Entry}
use Rattle.link_receiver.specs.Received.{taken}
use Rattle.link_text.specs.Printed.{lines_below}
use Rattle.link_run_entries.specs.SampleLines.{sample_line}

-- a sample as it leaves
abbrev pub entry_line : Entry → List ℕ
entry_line entry = sample_line entry.tick entry.carrier entry.number entry.value

abbrev pub entry_lines : List Entry → List ℕ
entry_lines entries = flat_map entry_line entries

-- how many packets of the flow at place f were received, and how many were missed
unfoldable pub flow_line : (f taken packets : ℕ) → List ℕ
flow_line f taken packets = codes "flow " ++ decimal f ++ codes " taken " ++ decimal taken ++ codes " missed " ++ decimal (packets - taken) ++ 10 ∷ []

abbrev pub line_of_flow : Plan → ℕ → List Record → ℕ → Option Flow → List ℕ
line_of_flow p h records place None = []
line_of_flow p h records place (Some f) = flow_line place (taken p f h records) (run_packets p f h)

-- the lines of all flows
abbrev pub flow_lines : Plan → ℕ → List Record → List ℕ
flow_lines p h records = lines_below (λ place. line_of_flow p h records place (slice_get p.flows place)) (length p.flows)
