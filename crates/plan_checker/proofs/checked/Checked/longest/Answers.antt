use Rattle.std.proofs.Common.{◌≡◌, arith, ◌<◌, ◌≤◌, length, subst, sym, All, Any}
use Rattle.std.proofs.lemmas.Grind.{common_steps}
use Rattle.plan_checker.specs.Rules.{IsGood}
use Rattle.plan_checker.specs.Rules.Rule.{Counts}
use Rattle.plan_checker.proofs.Longest.{greatest, greatest_bounds, greatest_reached_some}
use Rattle.plan_checker.proofs.checked.Checked.longest.Goals as goal

pub returns-clause-bound : goal.returns-clause-bound
returns-clause-bound c =
    let cs = c.args.self.now.carriers in
    let value : c.loop-carrier.longest ≡ greatest 0 cs = grind (arith, common_steps) in
    subst (λ n. All (λ x. x.k ≤ n) cs) (sym value) (greatest_bounds 0 cs).1

pub returns-clause-attained : goal.returns-clause-attained
returns-clause-attained c =
    let cs = c.args.self.now.carriers in
    let value : c.loop-carrier.longest ≡ greatest 0 cs = grind (arith, common_steps) in
    let good : IsGood c.args.self.now = subst IsGood c.self.view_is c.self.invariant in
    let some : 0 < length cs = omega (arith, (good Counts 0 (omega arith)).some_carriers) in
    subst (λ n. Any (λ x. x.k ≡ n) cs) (sym value) (greatest_reached_some cs some)
