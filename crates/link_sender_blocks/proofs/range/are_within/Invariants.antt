use Rattle.std.proofs.Common.{All, IsTrue, take}
use Rattle.sample_bits.specs.Samples.{IsWithin}
use Rattle.link_sender_blocks.proofs.range.are_within.Given as goal

-- those so far do
abbrev pub invariant-loop-sample : goal.invariant-loop-sample
invariant-loop-sample l = IsTrue l.within → All (IsWithin l.m) (take l.sample-index l.samples)
