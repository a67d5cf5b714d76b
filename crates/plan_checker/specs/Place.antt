-- Where the bits of samples stand in basic frames (CPRI V7.0, section 4.2.7.2, the mapping methods 1 and 3). That blocks
-- begin at frame 0, that a block is sent in the frames of the next block, and pieces are this project's own.
use Rattle.std.specs.Prelude.{ℕ, ◌+◌, ◌-◌, ◌*◌, ◌/◌, ◌%◌, nat_lt, List, [], ◌∷◌, if◌then◌else◌}
use Rattle.carrier_plan.specs.declared.plan.Carrier.{Carrier}
use Rattle.carrier_plan.specs.declared.plan.Method.{Method}
use Rattle.carrier_plan.specs.declared.plan.Method.TheVariants.{Sample, Compatible}
use Rattle.carrier_plan.specs.declared.plan.Piece.{Piece}
use Rattle.sample_bits.specs.BlockPlace.{BlockPlace}
use Rattle.axc_sample_map.specs.Place as sample_map
use Rattle.axc_compatible_map.specs.Place as compatible_map

pub record BitPlace : Type 0 where
  -- the number of the basic frame
  pub frame : ℕ
  -- the IQ bit of that frame
  pub bit : ℕ

-- the IQ bit at which bit b of a container in pieces stands. The bits of the pieces, one piece after another, are those
-- of the container.
abbrev pub iq_bit : List Piece → ℕ → ℕ
iq_bit [] b = b
iq_bit (p ∷ ps) b = if nat_lt b p.size then p.start + b else iq_bit ps (b - p.size)

-- where bit b of sample r of a block stands in the block's containers, by the mapping method
abbrev pub place_in_block : Method → ℕ → ℕ → ℕ → ℕ → ℕ → BlockPlace
place_in_block Sample m s k r b = sample_map.place_in_block m s k r b
place_in_block Compatible m s k r b = compatible_map.place_in_block m s k r b

-- where a place in the containers of a block is, of a carrier with this many basic frames in a block and these pieces
abbrev pub place_of_block : Carrier → ℕ → BlockPlace → BitPlace
place_of_block c block place = record { frame = (block + 1) * c.k + place.phase; bit = iq_bit c.pieces place.bit }

-- where bit b of sample j of the carrier stands
abbrev pub place_of : Carrier → ℕ → ℕ → BitPlace
place_of c j b = place_of_block c (j / c.s) (place_in_block c.method c.m c.s c.k (j % c.s) b)
