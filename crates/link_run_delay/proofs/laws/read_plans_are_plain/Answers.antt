use Rattle.link_run_delay.proofs.PlainPlans.{IsPlain-plan_of}
use Rattle.link_run_delay.proofs.laws.read_plans_are_plain.Goals as goal

pub returns : goal.returns
returns c = IsPlain-plan_of
