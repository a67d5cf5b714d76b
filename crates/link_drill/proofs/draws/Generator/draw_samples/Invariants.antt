use Rattle.std.proofs.Common.{◌≡◌, ℕ, ◌+◌, ◌*◌}
use Rattle.link_drill.specs.Draws.{IsAt, drawn_samples}
use Rattle.link_drill.proofs.draws.Generator.draw_samples.Given as goal

-- the samples so far, and the next draw
abbrev pub invariant-loop : goal.invariant-loop
invariant-loop l = (number : ℕ) → IsAt l.initial.self number 1 → (l.samples.items ≡ drawn_samples number l.counter) × IsAt l.self number (1 + 2 * l.counter)
