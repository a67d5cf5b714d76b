-- The containers of a carrier in the frames that were played, and its blocks. This is the project's own.
use Rattle.std.specs.Prelude.{ℕ, ◌-◌, ◌*◌, ◌/◌, List, map, find, Option, Some, None, if◌then◌else◌}
use Rattle.std.specs.List.{range_with_len}
use Rattle.carrier_plan.specs.declared.plan.Carrier.{Carrier}
use Rattle.carrier_plan.specs.declared.plan.Flow.{Flow}
use Rattle.carrier_plan.specs.declared.plan.Plan.{Plan}
use Rattle.link_base.specs.Record.{Record}
use Rattle.link_receiver_blocks.specs.Containers.{Container}
use Rattle.plan_checker.specs.Container.{container_size}
use Rattle.plan_checker.specs.Place.{iq_bit}
use Rattle.roe_mappers.specs.Parts.{part_bit, part_control, spelled}
use Rattle.link_receiver.specs.Received.{part_of_frame, is_missed_by}

-- the bits of a container, by the octets that carry its frame
abbrev pub bits_of_container : Plan → Flow → Carrier → List ℕ → List ℕ
bits_of_container p f carrier part = map (λ b. part_bit p f part (iq_bit carrier.pieces b)) (range_with_len 0 (container_size carrier))

abbrev pub container_by : Plan → Flow → Carrier → ℕ → Option (List ℕ) → Container
container_by p f carrier n None = None
container_by p f carrier n (Some part) = if is_missed_by p n (Some part) then None else Some (bits_of_container p f carrier part)

-- the container of a carrier of the flow in frame n, or none where the frame is missed
unfoldable pub container_of_frame : Plan → Flow → ℕ → List Record → Carrier → ℕ → Container
container_of_frame p f h records carrier n = container_by p f carrier n (part_of_frame p f h records n)

-- the first frame of the block of which frame n is one, in blocks of k
abbrev pub block_start : (k n : ℕ) → ℕ
block_start k n = n / k * k

-- the containers in hand before frame n is played: those of the frames of its block before it
abbrev pub containers_in_hand : Plan → Flow → ℕ → List Record → Carrier → ℕ → List Container
containers_in_hand p f h records carrier n =
    map (container_of_frame p f h records carrier) (range_with_len (block_start carrier.k n) (n - block_start carrier.k n))

-- the octets that a part of frame n has or spells, or none where the frame is missed
abbrev pub octets_if_good : Plan → ℕ → Option (List ℕ) → Option (List ℕ)
octets_if_good p n None = None
octets_if_good p n (Some part) = if is_missed_by p n (Some part) then None else Some (spelled p.mode part)

abbrev pub control_by : Plan → ℕ → Option (List ℕ) → Option (List ℕ)
control_by p n None = None
control_by p n (Some part) = if is_missed_by p n (Some part) then None else Some (part_control p part)

abbrev pub control_in : Plan → ℕ → List Record → ℕ → Option Flow → Option (List ℕ)
control_in p h records n None = None
control_in p h records n (Some f) = control_by p n (part_of_frame p f h records n)

-- the control word of frame n, by the flow that has control, or none where the frame is missed in it
unfoldable pub control_of_frame : Plan → ℕ → List Record → ℕ → Option (List ℕ)
control_of_frame p h records n = control_in p h records n (find (λ (f : Flow). f.control) p.flows)
