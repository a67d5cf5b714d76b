use Rattle.std.proofs.Common.{arith}
use Rattle.ethernet_channel.proofs.Chunks.{reversed_is}
use Rattle.ethernet_channel.proofs.groups.reversed.Goals as goal

pub returns : goal.returns
returns c = reversed_is c.args.octet (omega arith)
