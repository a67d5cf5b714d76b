use Rattle.link_run_feed.specs.Reasons.{bad_line}
use Rattle.link_run_feed.proofs.Counting.{given_then}
use Rattle.link_run_feed.proofs.written.refuse.Goals as goal

pub returns-in-Ok : goal.returns-in-Ok
returns-in-Ok g c =
    given_then _ _ _ (bad_line c.args.number c.args.reason) _ _ _ _ _ c.in-Ok.ensures.gathers c.in-Ok.ensures.cause.by_result
    (rw c.put_bad_line.ensures at c.give_text.ensures)
