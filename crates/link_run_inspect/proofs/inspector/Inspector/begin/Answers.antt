use Rattle.std.proofs.Common.{refl}
use Rattle.link_run_inspect.specs.Managed.{managed, managed_after}
use Rattle.link_run_inspect.proofs.inspector.Inspector.begin.Goals as goal

pub returns-clause-begun : goal.returns-clause-begun
unfolding managed managed_after
returns-clause-begun c = record {
  width = c.in_ok-reception.ensures.same.0;
  due = refl;
  receives = c.in_ok-reception.ensures.stands;
  manages = c.in_ok-channels.ensures;
}
