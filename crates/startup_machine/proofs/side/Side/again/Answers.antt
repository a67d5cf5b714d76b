use Rattle.std.proofs.Common.{◌≡◌, Some, None, arith}
use Rattle.std.proofs.lemmas.Grind.{common_steps}
use Rattle.circular_buffer.specs.Buffer.{last_item}
use Rattle.startup_machine.specs.Offers.{IsInRange}
use Rattle.startup_machine.proofs.Queues.{keep_last-newest, keep_last-none, All-newest}
use Rattle.startup_machine.proofs.side.Side.again.Goals as goal

pub returns-in_default-clause-ok : goal.returns-in_default-clause-ok
returns-in_default-clause-ok c =
    let items = c.self.inside.coming.items in
    let none : last_item items ≡ None = cc in
    let same = keep_last-none items none in
    grind (arith, common_steps)

pub append-requires : goal.append-requires
append-requires c =
    let items = c.self.inside.coming.items in
    let newest : last_item items ≡ Some c.in-Some.newest = cc in
    All-newest IsInRange items _ newest c.self.invariant.in_range

pub returns-clause-ok : goal.returns-clause-ok
returns-clause-ok c =
    let items = c.self.inside.coming.items in
    let newest : last_item items ≡ Some c.in-Some.newest = cc in
    let same = keep_last-newest items _ newest in
    grind (arith, common_steps)
