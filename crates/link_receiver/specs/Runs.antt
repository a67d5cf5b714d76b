-- The samples of a carrier that left, as a session keeps them. This is the project's own.
use Rattle.std.specs.Prelude.{◌≡◌, ℕ, zero, suc, ◌+◌, ◌-◌, ◌^◌, ◌≤◌, ◌<◌, List, [], ◌∷◌, ◌++◌, length, map, slice_index_or, pos}
use Rattle.std.specs.Int.{bit_at}
use Rattle.std.specs.List.{HoldsAt, range_with_len}
use Rattle.carrier_plan.specs.declared.plan.Plan.{Plan}
use Rattle.link_base.specs.Record.{Record}
use Rattle.link_receiver_blocks.specs.Containers.{Container, sample_of_block, samples_left, unless_marked}
use Rattle.link_receiver_blocks.specs.declared.mapping.Mapping.{Mapping}
use Rattle.sample_bits.specs.declared.iq.RawIq.{RawIq}
use Rattle.link_receiver.specs.declared.carrier_in_hand.CarrierInHand.{CarrierInHand}
use Rattle.link_receiver.specs.declared.entry.Entry.{Entry}
use Rattle.link_receiver.specs.Output.{entries_of}

-- entry i of a run of samples of carrier c that leaves at a tick, by the number of the first and the marks
abbrev pub entry_of_run : (tick c number marks : ℕ) → List RawIq → ℕ → Entry
entry_of_run tick c number marks samples i = record {
  tick = tick;
  carrier = c;
  number = number + i;
  value = unless_marked (bit_at marks i) (slice_index_or samples i (record { i = pos 0; q = pos 0 }));
}

-- the entries of the first samples
abbrev pub entries_of_run : (tick c number marks : ℕ) → List RawIq → (count : ℕ) → List Entry
entries_of_run tick c number marks samples count = map (entry_of_run tick c number marks samples) (range_with_len 0 count)

-- the entries of what is kept of carrier c, where it left at a tick
abbrev pub entries_of_kept : (tick c : ℕ) → CarrierInHand → List Entry
entries_of_kept tick c kept = entries_of_run tick c kept.number kept.marks kept.samples.items kept.count

-- the entries of what is kept of carriers, the first of which is carrier c
abbrev pub entries_from : (tick c : ℕ) → List CarrierInHand → List Entry
entries_from tick c [] = []
entries_from tick c (kept ∷ carriers) = entries_of_kept tick c kept ++ entries_from tick (c + 1) carriers

-- what is needed to list the entries of a carrier
pub record CanBeListed (kept : CarrierInHand) : Type 0 where
  pub few : kept.count ≤ 32
  pub samples : length kept.samples.items ≡ 32
  pub number : kept.number + kept.count < 2 ^ 64

-- the entries of a carrier at the tick before t, if there is one
abbrev pub entries_of_before : Plan → ℕ → List Record → (t c : ℕ) → List Entry
entries_of_before p h records zero c = []
entries_of_before p h records (suc t) c = entries_of p h records t c

-- what is kept are the samples of a block that leave with the last of these containers, the first ones of the block
pub record KeepsLeaving (w : Mapping) (containers : List Container) (kept : CarrierInHand) : Type 0 where
  pub count : samples_left w (length containers - 1) + kept.count ≡ samples_left w (length containers)
  pub few : kept.count ≤ 32
  pub read : (i : ℕ) → i < kept.count
      → HoldsAt (λ v. unless_marked (bit_at kept.marks i) v ≡ sample_of_block w containers (samples_left w (length containers - 1) + i)) kept.samples.items i
