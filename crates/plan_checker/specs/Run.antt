-- The numbers of a run of a plan. They are this project's own.
use Rattle.std.specs.Prelude.{ℕ, ◌+◌, ◌-◌, ◌*◌, ◌/◌, ◌<◌, ◌≤◌, List, map, fold, max, slice_index}
use Rattle.carrier_plan.specs.declared.plan.Carrier.{Carrier}
use Rattle.carrier_plan.specs.declared.plan.Flow.{Flow}
use Rattle.carrier_plan.specs.declared.plan.Plan.{Plan}
use Rattle.plan_checker.specs.Flows.{octets_of_frame}
use Rattle.link_base.specs.Window.{most_held}

-- S of each carrier: the samples of its block
abbrev pub block_samples : Plan → List ℕ
block_samples p = map (λ (c : Carrier). c.s) p.carriers

-- K of each carrier: the basic frames of its block
abbrev pub block_lengths : Plan → List ℕ
block_lengths p = map (λ (c : Carrier). c.k) p.carriers

-- Kmax, the longest block of the plan
abbrev pub longest_block : Plan → ℕ
longest_block p = fold max 0 (block_lengths p)

-- the basic frames between the tick at which a sample of carrier c is handed in and the tick at which it leaves
abbrev pub delay_of : Plan → ℕ → ℕ
delay_of p c = p.playout + slice_index (block_lengths p) c

-- the samples of carrier c that are handed in before tick n
abbrev pub samples_before : Plan → ℕ → ℕ → ℕ
samples_before p c n = n * slice_index (block_samples p) c / slice_index (block_lengths p) c

-- sample j of carrier c is handed in at tick n
abbrev pub IsDue : Plan → ℕ → ℕ → ℕ → Type 0
IsDue p c n j = (samples_before p c n ≤ j) × (j < samples_before p c (n + 1))

-- the samples of carrier c that are handed in at tick n
abbrev pub samples_due : Plan → ℕ → ℕ → ℕ
samples_due p c n = samples_before p c (n + 1) - samples_before p c n

-- the basic frames of a packet of each flow
abbrev pub packet_frames : Plan → List ℕ
packet_frames p = map (λ (f : Flow). f.frames) p.flows

-- the lmin of each flow
abbrev pub least_delays : Plan → List ℕ
least_delays p = map (λ (f : Flow). f.lmin) p.flows

-- the greatest number of packets of flow f that may have to be held at one tick
abbrev pub packets_held : Plan → ℕ → ℕ
packets_held p f = most_held (slice_index (packet_frames p) f) (slice_index (least_delays p) f) p.playout

-- the ticks in which a run of h ticks is played
abbrev pub ticks_of_run : Plan → ℕ → ℕ
ticks_of_run p h = h + longest_block p + p.playout

-- the octets of one basic frame in flow f
abbrev pub frame_octets_of : Plan → ℕ → ℕ
frame_octets_of p f = slice_index (map (octets_of_frame p) p.flows) f
