use Rattle.std.proofs.Common.{◌≡◌, ◌+◌, ◌-◌, ◌*◌, ◌≤◌}
use Rattle.sample_bits.specs.Copied.{CopiesBits}
use Rattle.sample_bits.proofs.copy.copy_pieces.Given as goal

-- what is left is what was not copied yet, and both places stand where it begins
abbrev pub invariant-loop-left : goal.invariant-loop-left
invariant-loop-left l =
    (l.left ≤ l.count)
    × (8 * l.source.octet + l.source.bit ≡ l.from + (l.count - l.left))
    × (8 * l.target.octet + l.target.bit ≡ l.at + (l.count - l.left))
    × CopiesBits l.src l.from l.initial.dst l.dst l.at (l.count - l.left)

abbrev pub decreases-loop-left : goal.decreases-loop-left
decreases-loop-left l = l.left
