use Rattle.link_run_entries.proofs.GroupTable.{entry_text, entry_count}
use Rattle.link_run_entries.proofs.digits.group.Goals as goal

pub returns-clause-text : goal.returns-clause-text
returns-clause-text c = entry_text c.args.index c.requires

pub returns-clause-count : goal.returns-clause-count
returns-clause-count c = entry_count c.args.index c.requires
