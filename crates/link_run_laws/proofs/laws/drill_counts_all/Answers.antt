use Rattle.link_run_laws.proofs.DrillRecords.{CountsAll-holds}
use Rattle.link_run_laws.proofs.laws.drill_counts_all.Goals as goal

pub returns : goal.returns
returns c = CountsAll-holds c.samples_are_delayed.ensures c.packets_are_those.ensures c.candidates_are_unique.ensures
