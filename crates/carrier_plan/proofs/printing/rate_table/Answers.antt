use Rattle.std.proofs.Common.{refl}
use Rattle.carrier_plan.proofs.printing.rate_table.Goals as goal

pub returns-clause-members : goal.returns-clause-members
returns-clause-members c = rw (c.in_ok-put-4.ensures, c.number-4.ensures.value, c.in_ok-put-3.ensures, c.number-3.ensures.value, c.in_ok-put-2.ensures, c.number-2.ensures.value, c.in_ok-put.ensures, c.number.ensures.value, c.method_number.ensures, c.new-table.ensures.empty) refl
