-- The containers of a block in the pieces of a basic frame in which they stand (CPRI Specification V7.0, section 4.2.7.2). That
-- a container may stand in pieces is this project's own.
use Rattle.std.specs.Prelude.{ℕ, ◌≡◌, ◌*◌, ◌<◌, List, length}
use Rattle.std.specs.List.{HoldsAt}
use Rattle.carrier_plan.specs.declared.plan.Carrier.{Carrier}
use Rattle.carrier_plan.specs.declared.plan.Piece.{Piece}
use Rattle.link_base.specs.Bits.{bit_of}
use Rattle.plan_checker.specs.Container.{pieces_size, size_by}
use Rattle.plan_checker.specs.Place.{iq_bit, place_in_block}
use Rattle.sample_bits.specs.BlockPlace.{BlockPlace}
use Rattle.sample_bits.specs.Blocks.{IsStuffed, bit_of_sample}
use Rattle.sample_bits.specs.Samples.{IsWithin}
use Rattle.sample_bits.specs.declared.iq.RawIq.{RawIq}
use Rattle.link_sender_blocks.specs.declared.mapping.Mapping.{Mapping}

-- how the samples of a carrier are mapped
abbrev pub mapping_of : Carrier → Mapping
mapping_of c = record { method = c.method; s = c.s; k = c.k; m = c.m }

-- the bits of a container by this mapping
abbrev pub container_bits : Mapping → ℕ
container_bits w = size_by w.method w.m w.s w.k

-- where bit b of sample r of a block stands
abbrev pub place_of_bit : Mapping → ℕ → ℕ → BlockPlace
place_of_bit w r b = place_in_block w.method w.m w.s w.k r b

-- IQ bit k is in none of the pieces.
abbrev pub IsOutside : List Piece → ℕ → Type 0
IsOutside pieces k = (b : ℕ) → b < pieces_size pieces → ¬ (k ≡ iq_bit pieces b)

-- The bits of the container stand in the pieces of the new IQ data block. All others stay.
pub record PutsPieces (container : List ℕ) (pieces : List Piece) (old new : List ℕ) : Type 0 where
  pub same_length : length new ≡ length old
  pub copied : (b : ℕ) → b < pieces_size pieces → bit_of new (iq_bit pieces b) ≡ bit_of container b
  pub others : (k : ℕ) → IsOutside pieces k → bit_of new k ≡ bit_of old k

-- The container of this frame of a block stands in the pieces of the new IQ data block: the bits of the samples at their
-- places, and 0 elsewhere. All bits outside of the pieces stay.
pub record SendsContainer (w : Mapping) (phase : ℕ) (block : List RawIq) (pieces : List Piece) (old new : List ℕ) : Type 0 where
  pub same_length : length new ≡ length old
  pub samples : (r b : ℕ) → r < w.s → b < 2 * w.m → (place_of_bit w r b).phase ≡ phase
      → bit_of new (iq_bit pieces (place_of_bit w r b).bit) ≡ bit_of_sample block r b
  pub stuffing : (x : ℕ) → x < container_bits w → IsStuffed w.m w.s (place_of_bit w) phase x → bit_of new (iq_bit pieces x) ≡ 0
  pub others : (k : ℕ) → IsOutside pieces k → bit_of new k ≡ bit_of old k

-- the place of the first sample of which I or Q does not have m bits
pub record IsFirstOutside (m : ℕ) (samples : List RawIq) (r : ℕ) : Type 0 where
  pub inside : r < length samples
  pub outside : HoldsAt (λ sample. ¬ IsWithin m sample) samples r
  pub before : (k : ℕ) → k < r → HoldsAt (IsWithin m) samples k
