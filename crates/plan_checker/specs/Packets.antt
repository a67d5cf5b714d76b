-- The packets of a flow: how many a run has, and what tells them apart on the way. The subtypes' numbers and the split
-- of the ordering information are this project's own (the fields are those of IEEE 1914.3-2018).
use Rattle.std.specs.Prelude.{ℕ, ◌+◌, ◌*◌, ◌/◌, ◌%◌}
use Rattle.std.specs.Int.{div_ceil}
use Rattle.carrier_plan.specs.declared.plan.Flow.{Flow}
use Rattle.carrier_plan.specs.declared.plan.Mode.{Mode}
use Rattle.carrier_plan.specs.declared.plan.Mode.TheVariants.{Tunnel, Bytes, Aware}
use Rattle.carrier_plan.specs.declared.plan.Plan.{Plan}
use Rattle.plan_checker.specs.Run.{longest_block}

-- the subtype of the packets of a mode
abbrev pub subtype_of : Mode → ℕ
subtype_of Tunnel = 2
subtype_of Bytes = 2
subtype_of Aware = 3

-- the sequence number of packet i: its count modulo q in the upper 16 bits, and modulo p in the lower
abbrev pub sequence_of : Flow → ℕ → ℕ
sequence_of f i = 65536 * (i / f.p % f.q) + i % f.p

-- the packets of a flow in a run of h ticks: they carry the frames of the run and of the longest block after it
abbrev pub run_packets : Plan → Flow → ℕ → ℕ
run_packets p f h = div_ceil (h + longest_block p) f.frames
