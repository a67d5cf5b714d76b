use Rattle.std.proofs.Common.{◌≡◌, ℕ, ◌+◌, ◌*◌, ◌<◌, ◌≤◌}
use Rattle.link_base.specs.Bits.{bit_of}
use Rattle.sample_bits.specs.Blocks.{bit_of_item}
use Rattle.axc_compatible_map.specs.Container.{bit_of_container, frame_containers, prescribed_size}
use Rattle.axc_compatible_map.proofs.packing.put_containers.Given as goal

-- The containers so far are due the samples before the next one and a part of it, and are written.
abbrev pub invariant-loop-j : goal.invariant-loop-j
invariant-loop-j g l = record {
  share : (l.phase * frame_containers l.s l.k + l.j) * l.s ≡ l.sample * (frame_containers l.s l.k * l.k) + l.due;
  part : l.due < frame_containers l.s l.k * l.k;
  put : (j b : ℕ) → j < l.j → b < 2 * l.m → bit_of l.out (l.at + j * (2 * l.m) + b) ≡ bit_of_container l.s l.k (bit_of_item g.T.SampleWord.sample l.block) (l.phase * frame_containers l.s l.k + j) b;
  before : (x : ℕ) → x < l.at → bit_of l.out x ≡ bit_of l.initial.out x;
  after : (x : ℕ) → l.at + prescribed_size l.m l.s l.k ≤ x → bit_of l.out x ≡ bit_of l.initial.out x;
}
