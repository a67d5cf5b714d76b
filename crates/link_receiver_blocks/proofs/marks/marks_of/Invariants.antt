use Rattle.std.proofs.Common.{◌≡◌, ℕ, ◌+◌, ◌<◌, ◌^◌, cond}
use Rattle.std.specs.Int.{bit_at}
use Rattle.link_receiver_blocks.specs.Held.{is_missed}
use Rattle.link_receiver_blocks.proofs.marks.marks_of.Given as goal

-- The marks of the samples so far stand, and no others.
abbrev pub invariant-loop-i : goal.invariant-loop-i
invariant-loop-i l = record {
  marks : (j : ℕ) → j < l.i → bit_at l.marks j ≡ cond (is_missed l.mapping l.missed (l.first + j)) 1 0;
  no_others : l.marks < 2 ^ l.i;
}
