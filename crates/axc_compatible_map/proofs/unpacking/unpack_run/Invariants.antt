use Rattle.std.proofs.Common.{◌≡◌, ℕ, ◌+◌, ◌*◌, ◌<◌}
use Rattle.std.specs.List.{HoldsAt}
use Rattle.sample_bits.specs.Blocks.{sample_in_block}
use Rattle.axc_compatible_map.specs.Container.{frame_containers, prescribed_size}
use Rattle.axc_compatible_map.specs.Place.{place_in_block}
use Rattle.axc_compatible_map.proofs.unpacking.unpack_run.Given as goal

-- The container of the next sample is the first by whose end the samples up to it are due, and those before it are read.
abbrev pub invariant-loop-sample : goal.invariant-loop-sample
invariant-loop-sample g l = record {
  share : (l.container + 1) * l.s ≡ (l.first + l.sample-index + 1) * (frame_containers l.s l.k * l.k) + l.spare;
  part : l.spare < l.s;
  read : (i : ℕ) → i < l.sample-index → HoldsAt (λ v. v ≡ sample_in_block g.row.M (prescribed_size g.row.M l.s l.k) (place_in_block g.row.M l.s l.k (l.first + i)) l.fn.octets l.start) l.out i;
}
