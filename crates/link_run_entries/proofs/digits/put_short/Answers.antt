use Rattle.link_run_entries.proofs.Laying.{lays_then, lays_as}
use Rattle.link_run_entries.proofs.Numbers.{two_groups}
use Rattle.link_run_entries.proofs.digits.put_short.Goals as goal

pub returns-clause-lays : goal.returns-clause-lays
returns-clause-lays c =
    lays_as _ _ _ _ _ _ (two_groups c.args.n c.second_index.result c.requires.digits c.second_index.ensures)
    (lays_then _ _ _ _ _ _ _ _ c.put_group-end.ensures.lays c.put_group.ensures.lays)
