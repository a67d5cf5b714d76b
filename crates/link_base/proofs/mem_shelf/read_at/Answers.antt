use Rattle.std.proofs.Common.{arith}
use Rattle.link_base.proofs.mem_shelf.read_at.Goals as goal

pub returns-clause-passes_none : goal.returns-clause-passes_none
returns-clause-passes_none c = λ offset after stop.
    let run = rw c.as_str.ensures.value at c.octets_to_stop-free.ensures in
    omega (arith, run.passes_none offset after stop, c.copy_front.ensures.at_most, c.min.ensures)
