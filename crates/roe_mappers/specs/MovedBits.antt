-- Bits of basic frames that are moved into octets and out of them, one after another there. This is the project's own.
use Rattle.std.specs.Prelude.{ℕ, ◌≡◌, ◌+◌, ◌*◌, ◌<◌, ◌≤◌, List, length, slice_index, Contains}
use Rattle.basic_frame.specs.Frames.{iq_bit}
use Rattle.carrier_plan.specs.declared.plan.Flow.{Flow}
use Rattle.carrier_plan.specs.declared.plan.Plan.{Plan}
use Rattle.link_base.specs.Bits.{bit_of}
use Rattle.roe_mappers.specs.CarriedBits.{carried_bits}

-- The bits at, at + 1 .. of the new octets are these IQ bits of a frame with words of y octets. All others stay.
pub record TakesBits (y : ℕ) (frame bits old new : List ℕ) (at : ℕ) : Type 0 where
  pub same_length : length new ≡ length old
  pub taken : (i : ℕ) → i < length bits → bit_of new (at + i) ≡ iq_bit y frame (slice_index bits i)
  pub before : (k : ℕ) → k < at → bit_of new k ≡ bit_of old k
  pub after : (k : ℕ) → at + length bits ≤ k → bit_of new k ≡ bit_of old k

-- The octets are the IQ bits of the flow's carriers in a frame with words of y octets, and 0 after them.
pub record AreContainers (p : Plan) (f : Flow) (y : ℕ) (frame octets : List ℕ) : Type 0 where
  pub bits : (i : ℕ) → i < length (carried_bits p f) → bit_of octets i ≡ iq_bit y frame (slice_index (carried_bits p f) i)
  pub padding : (k : ℕ) → length (carried_bits p f) ≤ k → bit_of octets k ≡ 0

-- These IQ bits of the new frame, with words of y octets, are the bits from, from + 1 .. of the octets. All others stay.
pub record GivesBits (y : ℕ) (octets : List ℕ) (from : ℕ) (bits old new : List ℕ) : Type 0 where
  pub control : (k : ℕ) → k < 8 * y → bit_of new k ≡ bit_of old k
  pub given : (i : ℕ) → i < length bits → iq_bit y new (slice_index bits i) ≡ bit_of octets (from + i)
  pub others : (x : ℕ) → ¬ Contains bits x → iq_bit y new x ≡ iq_bit y old x
