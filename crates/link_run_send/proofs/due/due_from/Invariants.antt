use Rattle.std.proofs.Common.{◌≡◌, ℕ, ◌<◌, ◌≤◌}
use Rattle.plan_checker.specs.Run.{samples_due}
use Rattle.link_run_send.proofs.due.due_from.Given as goal

-- nothing is due of the carriers so far
abbrev pub invariant-loop-c : goal.invariant-loop-c
invariant-loop-c l = (b : ℕ) → l.first ≤ b → b < l.c → samples_due l.checked b l.tick ≡ 0
