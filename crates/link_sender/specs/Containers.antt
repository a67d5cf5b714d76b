-- The containers of all carriers in the IQ data block of a basic frame, by the samples in hand. This is the project's own.
use Rattle.std.specs.Prelude.{ℕ, ◌≡◌, ◌*◌, ◌<◌, List, length, take, drop, slice_get, Some}
use Rattle.std.specs.List.{HoldsAt}
use Rattle.carrier_plan.specs.declared.plan.Carrier.{Carrier}
use Rattle.carrier_plan.specs.declared.plan.Plan.{Plan}
use Rattle.link_base.specs.Bits.{bit_of}
use Rattle.link_sender_blocks.specs.Containers.{container_bits, mapping_of, place_of_bit}
use Rattle.link_sender_blocks.specs.InHand.{SamplesView}
use Rattle.plan_checker.specs.Container.{HoldsBit}
use Rattle.plan_checker.specs.Place.{iq_bit}
use Rattle.plan_checker.specs.WordSize.{word_size}
use Rattle.sample_bits.specs.Blocks.{IsStuffed, bit_of_sample}

-- what is in hand is of the carriers of the plan, in their order
pub record AreMapped (p : Plan) (carriers : List SamplesView) : Type 0 where
  pub as_many : length carriers ≡ length p.carriers
  pub each : (c : ℕ) (carrier : Carrier) → slice_get p.carriers c ≡ Some carrier → HoldsAt (λ (h : SamplesView). h.mapping ≡ mapping_of carrier) carriers c

-- no container has IQ bit x of the frame
abbrev pub IsFree : Plan → ℕ → Type 0
IsFree p x = (c : ℕ) (carrier : Carrier) → slice_get p.carriers c ≡ Some carrier → ¬ HoldsBit carrier x

-- the container of a carrier in an IQ data block, by what is in hand
pub record CarriesContainer (carrier : Carrier) (block : List ℕ) (h : SamplesView) : Type 0 where
  pub samples : (r b : ℕ) → r < carrier.s → b < 2 * carrier.m → (place_of_bit (mapping_of carrier) r b).phase ≡ h.phase
      → bit_of block (iq_bit carrier.pieces (place_of_bit (mapping_of carrier) r b).bit) ≡ bit_of_sample h.sent r b
  pub stuffing : (x : ℕ) → x < container_bits (mapping_of carrier) → IsStuffed carrier.m carrier.s (place_of_bit (mapping_of carrier)) h.phase x
      → bit_of block (iq_bit carrier.pieces x) ≡ 0

-- The containers of all carriers stand in the new IQ data block, and all other bits stay.
pub record SendsContainers (p : Plan) (carriers : List SamplesView) (old new : List ℕ) : Type 0 where
  pub same_length : length new ≡ length old
  pub each : (c : ℕ) (carrier : Carrier) → slice_get p.carriers c ≡ Some carrier → HoldsAt (CarriesContainer carrier new) carriers c
  pub free : (x : ℕ) → IsFree p x → bit_of new x ≡ bit_of old x

-- The new octets are a basic frame: this control word, and the containers in the IQ data block.
pub record MakesFrame (p : Plan) (word : List ℕ) (carriers : List SamplesView) (old new : List ℕ) : Type 0 where
  pub same_length : length new ≡ length old
  pub control : take (word_size p.option) new ≡ word
  pub containers : SendsContainers p carriers (drop (word_size p.option) old) (drop (word_size p.option) new)
