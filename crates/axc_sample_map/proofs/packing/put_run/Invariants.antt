use Rattle.std.proofs.Common.{◌≡◌, ℕ, ◌+◌, ◌*◌, ◌<◌, ◌≤◌}
use Rattle.link_base.specs.Bits.{bit_of}
use Rattle.sample_bits.specs.Blocks.{bit_of_item}
use Rattle.axc_sample_map.specs.Container.{bit_in_run}
use Rattle.axc_sample_map.proofs.packing.put_run.Given as goal

-- The next bit to write is the bit of sample r after those that are skipped, and the bits before it are written.
abbrev pub invariant-loop-r : goal.invariant-loop-r
invariant-loop-r g l = record {
  begun : l.at ≤ l.next;
  within : l.next ≤ l.end;
  part : l.skipped < l.width;
  place : l.next < l.end → l.from + l.next ≡ l.at + l.width * l.r + l.skipped;
  put : (x : ℕ) → l.at + x < l.next → bit_of l.out (l.at + x) ≡ bit_in_run (2 * l.m) (bit_of_item g.T.SampleWord.sample l.samples) (l.from + x);
  before : (x : ℕ) → x < l.at → bit_of l.out x ≡ bit_of l.initial.out x;
  after : (x : ℕ) → l.end ≤ x → bit_of l.out x ≡ bit_of l.initial.out x;
}
