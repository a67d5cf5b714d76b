use Rattle.std.proofs.Common.{arith}
use Rattle.link_run_entries.proofs.Laying.{lays_none, lays_as}
use Rattle.link_run_entries.proofs.Numbers.{no_tens, some_tens}
use Rattle.link_run_entries.proofs.front.put_tens.Goals as goal

pub returns-then-tens-eq0-clause-lays : goal.returns-then-tens-eq0-clause-lays
returns-then-tens-eq0-clause-lays c =
    lays_as _ _ _ _ _ _ (no_tens c.args.tens c.if-tens-eq0.true) (lays_none c.args.octets.now c.args.at (omega arith))

pub returns-clause-lays : goal.returns-clause-lays
returns-clause-lays c = lays_as _ _ _ _ _ _ (some_tens c.args.tens (omega arith)) c.put_number.ensures.lays
