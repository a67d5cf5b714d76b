use Rattle.std.proofs.Common.{ℕ, ◌<◌}
use Rattle.std.specs.List.{AllWithin, HoldsAt}
use Rattle.plan_checker.specs.Container.{SharesNoBit}
use Rattle.plan_checker.proofs.container.has_separate_pieces.Given as goal

-- the pieces before this one share no bit with earlier ones
abbrev pub invariant-loop-i : goal.invariant-loop-i
invariant-loop-i l = (k : ℕ) → k < l.i → HoldsAt (λ b. AllWithin (λ a. SharesNoBit a b) l.pieces 0 k) l.pieces k
