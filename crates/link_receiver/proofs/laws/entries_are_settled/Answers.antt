use Rattle.link_receiver.proofs.Settled.{EntriesAreSettled-holds}
use Rattle.link_receiver.proofs.laws.entries_are_settled.Goals as goal

pub returns : goal.returns
returns c = EntriesAreSettled-holds
