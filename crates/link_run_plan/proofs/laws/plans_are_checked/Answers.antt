use Rattle.link_run_plan.proofs.Checks.{checks}
use Rattle.link_run_plan.proofs.laws.plans_are_checked.Goals as goal

pub returns : goal.returns
returns c = checks
