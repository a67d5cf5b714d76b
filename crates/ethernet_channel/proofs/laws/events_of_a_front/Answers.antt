use Rattle.ethernet_channel.proofs.Prefixes.{events_at-take}
use Rattle.ethernet_channel.proofs.laws.events_of_a_front.Goals as goal

pub returns : goal.returns
returns c = events_at-take
