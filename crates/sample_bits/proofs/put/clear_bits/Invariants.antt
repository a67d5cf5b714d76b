use Rattle.std.proofs.Common.{◌≡◌, ℕ, ◌-◌, ◌<◌, ◌≤◌}
use Rattle.link_base.specs.Bits.{bit_of}
use Rattle.sample_bits.proofs.put.clear_bits.Given as goal

-- the bits up to the next one are cleared, and those outside stay
abbrev pub invariant-loop-next : goal.invariant-loop-next
invariant-loop-next l = record {
  begun : l.at ≤ l.next;
  cleared : (k : ℕ) → l.at ≤ k → k < l.next → k < l.end → bit_of l.octets k ≡ 0;
  before : (k : ℕ) → k < l.at → bit_of l.octets k ≡ bit_of l.initial.octets k;
  after : (k : ℕ) → l.end ≤ k → bit_of l.octets k ≡ bit_of l.initial.octets k;
}

abbrev pub decreases-loop-next : goal.decreases-loop-next
decreases-loop-next l = l.end - l.next
