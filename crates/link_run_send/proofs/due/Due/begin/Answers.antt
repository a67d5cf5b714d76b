use Rattle.std.proofs.Common.{length, replicate}
use Rattle.link_run_send.proofs.DuePlaces.{handed_to_first}
use Rattle.link_run_send.proofs.due.Due.begin.Goals as goal

pub returns-clause-handed : goal.returns-clause-handed
returns-clause-handed c = c.find.ensures.handed (replicate (length c.args.checked.now.carriers) 0) (handed_to_first c.args.checked.now)
