use Rattle.std.proofs.Common.{arith}
use Rattle.link_run_entries.proofs.front.put_both.Goals as goal

pub returns-clause-short : goal.returns-clause-short
returns-clause-short c =
    let tick = c.put_tick-end.ensures.short in
    let carrier = c.put_size-end.ensures.short in
    let last = c.put_octet.ensures.ends in
    omega arith
