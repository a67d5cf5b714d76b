use Rattle.hdlc_channel.proofs.Streams.{goes_on}
use Rattle.hdlc_channel.proofs.laws.stream_goes_on.Goals as goal

pub returns : goal.returns
returns c = goes_on
