use Rattle.plan_checker.proofs.Samples.{EachBitHasOneSample-holds}
use Rattle.plan_checker.proofs.laws.bits_have_one_sample.Goals as goal

pub returns : goal.returns
returns c = EachBitHasOneSample-holds c.places_are_within.ensures c.places_are_distinct.ensures c.places_are_within-2.ensures c.places_are_distinct-2.ensures
