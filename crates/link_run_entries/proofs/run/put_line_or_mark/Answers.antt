use Rattle.std.proofs.Common.{Some, None, if◌then◌else◌}
use Rattle.link_run_entries.proofs.Laying.{lays_then, lays_as}
use Rattle.link_run_entries.proofs.RunLines.{line_is}
use Rattle.link_run_entries.proofs.run.put_line_or_mark.Goals as goal

pub returns-clause-lays : goal.returns-clause-lays
returns-clause-lays c =
    let front = c.args.front.now in
    lays_as _ _ _ _ _ _ (line_is front.tick front.carrier front.tens front.last (if c.args.marked then None else Some c.args.sample) front.digit c.requires.number)
    (lays_then _ _ _ _ _ _ _ _ c.put-place.ensures.lays c.put_rest.ensures.lays)
