-- The samples of a block in the containers of its basic frames, by a mapping method that says where each bit stands (CPRI
-- Specification V7.0, section 4.2.7.2).
use Rattle.std.specs.Prelude.{◌≡◌, ℕ, ◌+◌, ◌*◌, ◌<◌, ◌≤◌, List, length, slice_get}
use Rattle.std.specs.Option.{option_map_or}
use Rattle.link_base.specs.Bits.{bit_of}
use Rattle.sample_bits.specs.declared.iq.RawIq.{RawIq}
use Rattle.sample_bits.specs.Samples.{sample_bit}
use Rattle.sample_bits.specs.SampleOfBits.{sample_of_bits}
use Rattle.sample_bits.specs.BlockPlace.{BlockPlace, bit_in_block}

-- bit b of the sample that item r stands for, where there is such an item
abbrev pub bit_of_item : {A : Type 0} → (A → RawIq) → List A → ℕ → ℕ → ℕ
bit_of_item sample items r b = option_map_or (λ x. sample_bit (sample x) b) (slice_get items r) 0

-- bit b of sample r of these, where there is such a sample
abbrev pub bit_of_sample : List RawIq → ℕ → ℕ → ℕ
bit_of_sample = bit_of_item (λ s. s)

-- The sample of I and Q in m bits each whose bits stand at these places of a block. The containers of the block, of so many
-- bits each, stand one after another from bit `start` of the octets on.
abbrev pub sample_in_block : (m size : ℕ) → (ℕ → BlockPlace) → List ℕ → ℕ → RawIq
sample_in_block m size place octets start = sample_of_bits m (λ b. bit_of octets (start + bit_in_block size (place b)))

-- Bit x of the container in this frame of the block belongs to no sample of the block, of s samples of I and Q in m bits each.
abbrev pub IsStuffed : (m s : ℕ) → (ℕ → ℕ → BlockPlace) → ℕ → ℕ → Type 0
IsStuffed m s place phase x = (r b : ℕ) → r < s → b < 2 * m → (place r b).phase ≡ phase → ¬ ((place r b).bit ≡ x)

-- The container of one frame of a block, of so many bits, stands from bit `at` of the new octets on: the given bits of the
-- samples at their places, and 0 elsewhere. All bits outside of it stay.
pub record PutsContainer (m s size : ℕ) (place : ℕ → ℕ → BlockPlace) (phase : ℕ) (bits : ℕ → ℕ → ℕ) (old new : List ℕ) (at : ℕ) : Type 0 where
  pub same_length : length new ≡ length old
  pub samples : (r b : ℕ) → r < s → b < 2 * m → (place r b).phase ≡ phase → bit_of new (at + (place r b).bit) ≡ bits r b
  pub stuffing : (x : ℕ) → x < size → IsStuffed m s place phase x → bit_of new (at + x) ≡ 0
  pub before : (k : ℕ) → k < at → bit_of new k ≡ bit_of old k
  pub after : (k : ℕ) → at + size ≤ k → bit_of new k ≡ bit_of old k

-- the first and the last frame of a block in which a bit of the sample with these places stands
pub record IsSpan (m : ℕ) (place : ℕ → BlockPlace) (first last : ℕ) : Type 0 where
  pub from_first : (b : ℕ) → b < 2 * m → first ≤ (place b).phase
  pub to_last : (b : ℕ) → b < 2 * m → (place b).phase ≤ last
  pub first_holds : (b : ℕ) × (b < 2 * m) × ((place b).phase ≡ first)
  pub last_holds : (b : ℕ) × (b < 2 * m) × ((place b).phase ≡ last)
