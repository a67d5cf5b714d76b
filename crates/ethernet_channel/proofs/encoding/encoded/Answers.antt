use Rattle.std.proofs.Common.{arith}
use Rattle.ethernet_channel.proofs.EncodingTable.{entry}
use Rattle.ethernet_channel.proofs.encoding.encoded.Goals as goal

pub returns-clause-bits : goal.returns-clause-bits
returns-clause-bits c = rw c.from.ensures ((entry c.args.octet (omega arith)).0)

pub returns-clause-small : goal.returns-clause-small
returns-clause-small c = rw c.from.ensures ((entry c.args.octet (omega arith)).1)
