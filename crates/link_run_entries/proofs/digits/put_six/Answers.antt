use Rattle.std.proofs.Common.{◌/◌, ◌%◌, arith}
use Rattle.link_run_entries.proofs.Laying.{lays_then, lays_as}
use Rattle.link_run_entries.proofs.Numbers.{group_behind}
use Rattle.link_run_entries.proofs.digits.put_six.Goals as goal

pub returns : goal.returns
returns c =
    lays_then _ _ _ _ _ _ _ _
    (lays_as _ _ _ _ _ _ (group_behind (c.args.n / 1000) (omega arith)) c.put_group-end.ensures.lays)
    (lays_as _ _ _ _ _ _ (group_behind (c.args.n % 1000) (omega arith)) c.put_group.ensures.lays)
