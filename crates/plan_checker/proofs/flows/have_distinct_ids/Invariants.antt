use Rattle.std.proofs.Common.{◌≢◌, ℕ, ◌<◌}
use Rattle.std.specs.List.{AllWithin, HoldsAt}
use Rattle.plan_checker.proofs.flows.have_distinct_ids.Given as goal

-- the ids of the flows before this one are new
abbrev pub invariant-loop-i : goal.invariant-loop-i
invariant-loop-i l = (k : ℕ) → k < l.i → HoldsAt (λ g. AllWithin (λ f. f.id ≢ g.id) l.flows 0 k) l.flows k
