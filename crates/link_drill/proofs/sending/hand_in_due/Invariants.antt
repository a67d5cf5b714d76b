use Rattle.std.proofs.Common.{◌≡◌}
use Rattle.link_drill.specs.Sent.{HasSent, IsRun}
use Rattle.link_drill.proofs.sending.hand_in_due.Given as goal

-- the samples of the first carriers were handed in
abbrev pub invariant-loop-c : goal.invariant-loop-c
invariant-loop-c l =
    IsRun l.sender × (l.sender.plan ≡ l.initial.sender.plan) × (l.sender.tick ≡ l.initial.sender.tick)
    × HasSent l.sender l.words l.drawn l.initial.sender.tick l.c
