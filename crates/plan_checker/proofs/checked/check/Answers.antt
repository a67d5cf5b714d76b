use Rattle.plan_checker.proofs.Verdicts.{verdict_of-good, verdict_of-first_failure}
use Rattle.plan_checker.proofs.checked.check.Goals as goal

pub returns-in-None-clause-computed : goal.returns-in-None-clause-computed
returns-in-None-clause-computed c = verdict_of-good c.args.plan c.in-None.ensures

pub returns-in-Some-clause-computed : goal.returns-in-Some-clause-computed
returns-in-Some-clause-computed c = verdict_of-first_failure c.args.plan _ _ c.in-Some.ensures
