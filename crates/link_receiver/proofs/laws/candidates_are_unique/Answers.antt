use Rattle.link_receiver.proofs.Settled.{unique_in_plan}
use Rattle.link_receiver.proofs.laws.candidates_are_unique.Goals as goal

pub returns : goal.returns
returns c = unique_in_plan
