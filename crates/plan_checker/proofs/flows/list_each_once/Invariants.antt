use Rattle.std.proofs.Common.{◌≡◌, ℕ, ◌<◌, count_by}
use Rattle.plan_checker.specs.Flows.{lists}
use Rattle.plan_checker.proofs.flows.list_each_once.Given as goal

-- each carrier before this one is in exactly one flow
abbrev pub invariant-loop-carrier : goal.invariant-loop-carrier
invariant-loop-carrier l = (c : ℕ) → c < l.carrier → count_by (lists c) l.flows ≡ 1
