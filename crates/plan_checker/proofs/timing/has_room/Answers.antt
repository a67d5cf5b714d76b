use Rattle.std.proofs.Common.{◌≤◌, arith, rules}
use Rattle.std.proofs.lemmas.Bool.Decides.{Decides-like}
use Rattle.std.proofs.lemmas.Grind.{common_steps}
use Rattle.plan_checker.proofs.Decisions.{Decides-leb}
use Rattle.plan_checker.proofs.timing.has_room.Goals as goal

pub returns-then-contains : goal.returns-then-contains
returns-then-contains c =
    let some : 1 ≤ c.args.flow.now.cap = first_of (search rules, grind (arith, common_steps)) in
    let small : c.args.flow.now.cap ≤ 4_096 = first_of (search rules, grind (arith, common_steps)) in
    let most = c.packets_held.ensures.most in
    Decides-like _
    (λ le. record { some = some; small = small; enough = λ t n count. let bound = most.bound t n count in omega (arith, le) })
    (λ h. let room = h.enough most.reached_at c.packets_held.result most.reached in omega (arith, room))
    (Decides-leb c.packets_held.result c.from.result)
