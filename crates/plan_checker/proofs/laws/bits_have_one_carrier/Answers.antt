use Rattle.plan_checker.proofs.Separate.{EachBitHasOneCarrier-holds}
use Rattle.plan_checker.proofs.laws.bits_have_one_carrier.Goals as goal

pub returns : goal.returns
returns c = EachBitHasOneCarrier-holds
