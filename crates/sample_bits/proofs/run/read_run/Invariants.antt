use Rattle.std.proofs.Common.{◌≡◌, ℕ, ◌+◌, ◌*◌, ◌<◌}
use Rattle.std.specs.List.{HoldsAt}
use Rattle.sample_bits.specs.SampleOfBits.{sample_at}
use Rattle.sample_bits.proofs.run.read_run.Given as goal

abbrev pub invariant-loop-index : goal.invariant-loop-index
invariant-loop-index g l = (i : ℕ) → i < l.index → HoldsAt (λ s. s ≡ sample_at g.row.M l.octets (l.from + 2 * g.row.M * i)) l.out i
