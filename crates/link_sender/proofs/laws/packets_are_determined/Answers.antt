use Rattle.link_sender.proofs.WholePackets.{PacketsAreDetermined-holds}
use Rattle.link_sender.proofs.laws.packets_are_determined.Goals as goal

pub returns : goal.returns
returns c = PacketsAreDetermined-holds
