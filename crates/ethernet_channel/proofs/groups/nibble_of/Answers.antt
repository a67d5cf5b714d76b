use Rattle.std.proofs.Common.{sym}
use Rattle.ethernet_channel.proofs.CodeTables.{nibble_of-none, nibble_of-some}
use Rattle.ethernet_channel.proofs.groups.nibble_of.Goals as goal

pub returns-then-nibble-clause-value : goal.returns-then-nibble-clause-value
returns-then-nibble-clause-value c = sym (nibble_of-none c.args.group c.requires c.if-nibble.true)

pub returns-else-nibble-clause-value : goal.returns-else-nibble-clause-value
returns-else-nibble-clause-value c = sym ((nibble_of-some c.args.group c.requires c.if-nibble.false).0)

pub returns-else-nibble-clause-small : goal.returns-else-nibble-clause-small
returns-else-nibble-clause-small c = (nibble_of-some c.args.group c.requires c.if-nibble.false).1
