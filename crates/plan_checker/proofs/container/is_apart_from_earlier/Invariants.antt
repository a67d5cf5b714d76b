use Rattle.std.proofs.Common.{ℕ, ◌<◌}
use Rattle.std.specs.List.{HoldsAt}
use Rattle.plan_checker.specs.Container.{SharesNoPiece}
use Rattle.plan_checker.proofs.container.is_apart_from_earlier.Given as goal

-- the carriers before this one share no bit
abbrev pub invariant-loop-j : goal.invariant-loop-j
invariant-loop-j l = (k : ℕ) → k < l.j → HoldsAt (λ earlier. SharesNoPiece earlier.pieces l.pieces) l.carriers k
