use Rattle.std.proofs.Common.{◌≡◌, ℕ}
use Rattle.link_drill.specs.Draws.{IsAt}
use Rattle.link_drill.specs.Fates.{fate_draw, fates_of}
use Rattle.link_drill.proofs.fates.draw_fates.Given as goal

-- the fates so far, and the next draw
abbrev pub invariant-loop-packet : goal.invariant-loop-packet
invariant-loop-packet l =
    (number first : ℕ) → IsAt l.initial.generator number first
    → (l.fates.items ≡ fates_of number first l.packet) × IsAt l.generator number (fate_draw number first l.packet)
