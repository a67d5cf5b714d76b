use Rattle.startup_machine.proofs.Histories.{BothOffered-run}
use Rattle.startup_machine.proofs.laws.offers_were_made.Goals as goal

pub returns : goal.returns
returns c = BothOffered-run
