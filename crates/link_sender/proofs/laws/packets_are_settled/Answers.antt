use Rattle.link_sender.proofs.Settled.{PacketsAreSettled-holds}
use Rattle.link_sender.proofs.laws.packets_are_settled.Goals as goal

pub returns : goal.returns
returns c = PacketsAreSettled-holds
