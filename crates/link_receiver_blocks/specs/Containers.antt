-- The containers of a block that were played, and the samples that they carry (CPRI Specification V7.0, section 4.2.7.2). That
-- a sample is marked where a bit of it stands in a basic frame that was missed is this project's own.
use Rattle.std.specs.Prelude.{ℕ, ◌≡◌, ◌+◌, ◌-◌, ◌*◌, ◌/◌, ◌^◌, ◌<◌, ◌≤◌, ◌==◌, Bool, List, [], length, map, slice_get, slice_index, Option, Some, None, if◌then◌else◌}
use Rattle.std.specs.Int.{bit_at}
use Rattle.std.specs.List.{HoldsAt, list_any, range_with_len}
use Rattle.std.specs.Option.{is_none, option_map}
use Rattle.carrier_plan.specs.declared.plan.Carrier.{Carrier}
use Rattle.carrier_plan.specs.declared.plan.Piece.{Piece}
use Rattle.link_base.specs.Bits.{bit_of}
use Rattle.plan_checker.specs.Container.{pieces_size, size_by}
use Rattle.plan_checker.specs.Place.{iq_bit, place_in_block}
use Rattle.sample_bits.specs.BlockPlace.{BlockPlace}
use Rattle.sample_bits.specs.SampleOfBits.{sample_of_bits}
use Rattle.sample_bits.specs.declared.iq.RawIq.{RawIq}
use Rattle.link_receiver_blocks.specs.declared.mapping.Leaving.{Leaving}
use Rattle.link_receiver_blocks.specs.declared.mapping.Mapping.{Mapping}

-- how the samples of a carrier are mapped
abbrev pub mapping_of : Carrier → Mapping
mapping_of c = record { method = c.method; s = c.s; k = c.k; m = c.m }

-- the bits of a container, or none where its frame was missed
abbrev pub Container : Type 0
Container = Option (List ℕ)

-- the bits of the container that stands in these pieces of octets
abbrev pub container_in : List ℕ → List Piece → List ℕ
container_in octets route = map (λ b. bit_of octets (iq_bit route b)) (range_with_len 0 (pieces_size route))

-- the container that is played with the octets of a frame, or none where the frame was missed
abbrev pub container_played : Option (List ℕ) → List Piece → Container
container_played frame route = option_map (λ octets. container_in octets route) frame

-- the bits of a container by this mapping
abbrev pub container_bits : Mapping → ℕ
container_bits w = size_by w.method w.m w.s w.k

-- the containers in hand after these first ones of a block of k: none where the block is whole
abbrev pub in_hand_after : ℕ → List Container → List Container
in_hand_after k containers = if length containers == k then [] else containers

abbrev pub container_by : Option Container → Container
container_by None = None
container_by (Some container) = container

-- the container of this frame of the block, or none where it was missed or is still to come
abbrev pub container_at : List Container → ℕ → Container
container_at containers phase = container_by (slice_get containers phase)

-- where bit b of sample r of the block stands
abbrev pub place_of_bit : Mapping → ℕ → ℕ → BlockPlace
place_of_bit w r b = place_in_block w.method w.m w.s w.k r b

abbrev pub bit_of_container : Container → ℕ → ℕ
bit_of_container None b = 0
bit_of_container (Some bits) b = slice_index bits b

-- the bit at a place of the block
abbrev pub bit_at_place : List Container → BlockPlace → ℕ
bit_at_place containers place = bit_of_container (container_at containers place.phase) place.bit

-- whether a bit of sample r of the block stands in a container that is not there
abbrev pub is_marked : Mapping → List Container → ℕ → Bool
is_marked w containers r = list_any (λ b. is_none (container_at containers (place_of_bit w r b).phase)) (range_with_len 0 (2 * w.m))

-- sample r of the block, or none where it is marked
unfoldable pub sample_of_block : Mapping → List Container → ℕ → Option RawIq
sample_of_block w containers r =
    if is_marked w containers r then None else Some (sample_of_bits w.m (λ b. bit_at_place containers (place_of_bit w r b)))

-- how many samples of a block leave with its first n containers
abbrev pub samples_left : Mapping → ℕ → ℕ
samples_left w n = n * w.s / w.k

-- a sample, or none where its mark is 1
abbrev pub unless_marked : ℕ → RawIq → Option RawIq
unless_marked mark sample = if mark == 1 then None else Some sample

-- With the last of these containers, which are the first of a block, these samples of it leave. They stand at the first
-- places of the list.
pub record LeavesSamples (w : Mapping) (containers : List Container) (leaving : Leaving) (samples : List RawIq) : Type 0 where
  pub first : leaving.first ≡ samples_left w (length containers - 1)
  pub count : leaving.first + leaving.count ≡ samples_left w (length containers)
  pub few : leaving.count ≤ 32
  pub read : (i : ℕ) → i < leaving.count → HoldsAt (λ v. unless_marked (bit_at leaving.marks i) v ≡ sample_of_block w containers (leaving.first + i)) samples i
  pub no_other_marks : leaving.marks < 2 ^ leaving.count
