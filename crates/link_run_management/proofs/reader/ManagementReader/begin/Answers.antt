use Rattle.std.proofs.Common.{refl}
use Rattle.link_run_management.specs.Management.{given_from, since_cut}
use Rattle.link_run_management.proofs.reader.ManagementReader.begin.Goals as goal

pub returns-clause-stands : goal.returns-clause-stands
unfolding given_from since_cut
returns-clause-stands c = record { place = refl; slow = c.in_ok-begin.ensures; fast = c.in_ok-begin-2.ensures }
