use Rattle.std.proofs.Common.{◌≡◌, ℕ, ◌+◌, ◌*◌, ◌<◌, ◌≤◌}
use Rattle.link_base.specs.Bits.{bit_of}
use Rattle.sample_bits.specs.Blocks.{bit_of_item}
use Rattle.sample_bits.specs.Filled.{IsFilled}
use Rattle.sample_bits.proofs.writing.push_pairs.Given as goal

-- The samples of the pairs so far are taken.
abbrev pub invariant-loop-pair : goal.invariant-loop-pair
invariant-loop-pair g l = record {
  place : 8 * l.pending.octet + l.pending.count ≡ 8 * l.fn.begun.octet + l.fn.begun.count + 2 * l.m * (2 * l.pair);
  filled : (bits : ℕ → ℕ) → IsFilled bits l.initial.octets l.fn.begun.octet l.fn.begun.bits l.fn.begun.count
      → ((r b : ℕ) → r < 2 * l.pair → b < 2 * l.m → bit_of_item g.T.SampleWord.sample l.samples r b ≡ bits (8 * l.fn.begun.octet + l.fn.begun.count + 2 * l.m * r + b))
      → IsFilled bits l.octets l.pending.octet l.pending.bits l.pending.count;
  after : (k : ℕ) → 8 * l.pending.octet + l.pending.count ≤ k → bit_of l.octets k ≡ bit_of l.initial.octets k;
}
