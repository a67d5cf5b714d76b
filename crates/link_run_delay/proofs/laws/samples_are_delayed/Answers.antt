use Rattle.link_run_delay.proofs.Delayed.{SamplesAreDelayed-holds}
use Rattle.link_run_delay.proofs.laws.samples_are_delayed.Goals as goal

pub returns : goal.returns
returns c = SamplesAreDelayed-holds c.bits_have_one_sample.ensures c.parts_are_given_back.ensures
