use Rattle.hdlc_channel.proofs.WrittenRead.{written_read}
use Rattle.hdlc_channel.proofs.laws.written_is_read.Goals as goal

pub returns : goal.returns
returns c = written_read
