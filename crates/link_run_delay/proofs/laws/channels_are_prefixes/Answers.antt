use Rattle.link_run_delay.proofs.ChannelOctets.{ChannelsArePrefixes-holds}
use Rattle.link_run_delay.proofs.laws.channels_are_prefixes.Goals as goal

pub returns : goal.returns
returns c = ChannelsArePrefixes-holds
