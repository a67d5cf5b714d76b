use Rattle.std.proofs.Common.{◌∙◌}
use Rattle.hdlc_channel.proofs.UnstuffingTable.{says}
use Rattle.hdlc_channel.proofs.unstuffing.unstuff.Goals as goal

pub returns-clause-bits : goal.returns-clause-bits
returns-clause-bits c = (says c.args.ones c.args.octet c.from-entry.result c.requires (c.from-entry.ensures ∙ c.entry.ensures) c.if-entry-eq0.false).bits

pub returns-clause-small : goal.returns-clause-small
returns-clause-small c = (says c.args.ones c.args.octet c.from-entry.result c.requires (c.from-entry.ensures ∙ c.entry.ensures) c.if-entry-eq0.false).small

pub returns-clause-few : goal.returns-clause-few
returns-clause-few c = (says c.args.ones c.args.octet c.from-entry.result c.requires (c.from-entry.ensures ∙ c.entry.ensures) c.if-entry-eq0.false).few
