use Rattle.std.proofs.Common.{◌≡◌, ℕ, ◌+◌, ◌*◌, ◌<◌}
use Rattle.std.specs.List.{HoldsAt}
use Rattle.sample_bits.specs.SampleOfBits.{sample_at}
use Rattle.sample_bits.proofs.run.read_fours.Given as goal

abbrev pub invariant-loop-four : goal.invariant-loop-four
invariant-loop-four g l = (i : ℕ) → i < 4 * l.four → HoldsAt (λ s. s ≡ sample_at g.row.M l.octets (8 * l.octet + l.bit + 2 * g.row.M * i)) l.out i
