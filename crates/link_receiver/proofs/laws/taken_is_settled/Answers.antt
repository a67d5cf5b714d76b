use Rattle.link_receiver.proofs.Settled.{TakenIsSettled-holds}
use Rattle.link_receiver.proofs.laws.taken_is_settled.Goals as goal

pub returns : goal.returns
returns c = TakenIsSettled-holds
