use Rattle.plan_checker.proofs.Verdicts.{FailureIsUnique-holds, VerdictIsComputed-holds}
use Rattle.plan_checker.proofs.laws.verdicts_are_determined.Goals as goal

pub returns-clause-unique : goal.returns-clause-unique
returns-clause-unique c = FailureIsUnique-holds

pub returns-clause-computed : goal.returns-clause-computed
returns-clause-computed c = VerdictIsComputed-holds
