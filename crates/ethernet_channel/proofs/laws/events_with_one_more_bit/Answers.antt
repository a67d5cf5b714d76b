use Rattle.ethernet_channel.proofs.Prefixes.{events_at-push}
use Rattle.ethernet_channel.proofs.laws.events_with_one_more_bit.Goals as goal

pub returns : goal.returns
returns c = events_at-push
