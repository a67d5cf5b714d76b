-- The IQ bits of a basic frame that the carriers of a flow have. That the structure-aware payload of IEEE 1914.3-2018 carries
-- them in this order is this project's own.
use Rattle.std.specs.Prelude.{ℕ, List, [], flat_map, Option, Some, None, slice_get}
use Rattle.std.specs.List.{range_with_len}
use Rattle.carrier_plan.specs.declared.plan.Carrier.{Carrier}
use Rattle.carrier_plan.specs.declared.plan.Flow.{Flow}
use Rattle.carrier_plan.specs.declared.plan.Piece.{Piece}
use Rattle.carrier_plan.specs.declared.plan.Plan.{Plan}

-- the IQ bits of a piece
abbrev pub bits_of_piece : Piece → List ℕ
bits_of_piece p = range_with_len p.start p.size

-- the IQ bits of a container, in the order of the container's bits
abbrev pub bits_of_container : Carrier → List ℕ
bits_of_container c = flat_map bits_of_piece c.pieces

abbrev pub bits_if : Option Carrier → List ℕ
bits_if None = []
bits_if (Some c) = bits_of_container c

-- the IQ bits of the container of carrier number c
abbrev pub bits_of_carrier : Plan → ℕ → List ℕ
bits_of_carrier p c = bits_if (slice_get p.carriers c)

-- the IQ bits of all containers of a flow, one container after another, the carriers in the flow's order
abbrev pub carried_bits : Plan → Flow → List ℕ
carried_bits p f = flat_map (bits_of_carrier p) f.carriers
