use Rattle.hdlc_channel.proofs.Writes.{wrote_read}
use Rattle.hdlc_channel.proofs.laws.given_is_read.Goals as goal

pub returns : goal.returns
returns c = wrote_read
