use Rattle.hdlc_channel.proofs.WrittenRead.{stream_read}
use Rattle.hdlc_channel.proofs.laws.stream_is_read.Goals as goal

pub returns : goal.returns
returns c = stream_read
