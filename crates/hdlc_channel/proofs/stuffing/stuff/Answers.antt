use Rattle.std.proofs.Common.{◌∙◌}
use Rattle.hdlc_channel.proofs.StuffedBits.{entry_bits, entry_small, entry_within, entry_ones, entry_few}
use Rattle.hdlc_channel.proofs.stuffing.stuff.Goals as goal

pub returns-clause-bits : goal.returns-clause-bits
returns-clause-bits c = entry_bits c.args.ones c.args.octet c.from-entry.result c.requires (c.from-entry.ensures ∙ c.entry.ensures)

pub returns-clause-small : goal.returns-clause-small
returns-clause-small c = entry_small c.args.ones c.args.octet c.from-entry.result c.requires (c.from-entry.ensures ∙ c.entry.ensures)

pub returns-clause-within : goal.returns-clause-within
returns-clause-within c = entry_within c.args.ones c.args.octet c.from-entry.result c.requires (c.from-entry.ensures ∙ c.entry.ensures)

pub returns-clause-ones : goal.returns-clause-ones
returns-clause-ones c = entry_ones c.args.ones c.args.octet c.from-entry.result c.requires (c.from-entry.ensures ∙ c.entry.ensures)

pub returns-clause-few : goal.returns-clause-few
returns-clause-few c = entry_few c.args.ones c.args.octet c.from-entry.result c.requires (c.from-entry.ensures ∙ c.entry.ensures)
