use Rattle.std.proofs.Common.{arith}
use Rattle.hdlc_channel.proofs.StuffingTable.{entry_at}
use Rattle.hdlc_channel.proofs.stuffing.entry.Goals as goal

pub returns : goal.returns
returns c = entry_at c.args.ones c.args.octet c.requires (omega arith)
