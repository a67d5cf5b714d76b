use Rattle.std.proofs.Common.{◌≡◌, ℕ, ◌+◌, ◌-◌, ◌*◌, ◌<◌, ◌≤◌}
use Rattle.link_base.specs.Bits.{bit_of}
use Rattle.sample_bits.specs.Blocks.{bit_of_item}
use Rattle.sample_bits.specs.Filled.{IsFilled}
use Rattle.sample_bits.proofs.writing.push_singles.Given as goal

-- The samples from the first up to the next are taken.
abbrev pub invariant-loop-r : goal.invariant-loop-r
invariant-loop-r g l = record {
  place : 8 * l.pending.octet + l.pending.count ≡ 8 * l.fn.begun.octet + l.fn.begun.count + 2 * l.m * (l.r - l.first);
  filled : (bits : ℕ → ℕ) → IsFilled bits l.initial.octets l.fn.begun.octet l.fn.begun.bits l.fn.begun.count
      → ((i b : ℕ) → l.first + i < l.r → b < 2 * l.m → bit_of_item g.T.SampleWord.sample l.samples (l.first + i) b ≡ bits (8 * l.fn.begun.octet + l.fn.begun.count + 2 * l.m * i + b))
      → IsFilled bits l.octets l.pending.octet l.pending.bits l.pending.count;
  after : (k : ℕ) → 8 * l.pending.octet + l.pending.count ≤ k → bit_of l.octets k ≡ bit_of l.initial.octets k;
}
