use Rattle.std.proofs.Common.{◌/◌, ◌≤◌, length, decimal, arith}
use Rattle.std.proofs.lemmas.Fmt.{length-decimal-le}
use Rattle.link_run_entries.proofs.Laying.{lays_then, lays_as}
use Rattle.link_run_entries.proofs.Numbers.{six_behind}
use Rattle.link_run_entries.proofs.digits.+put_long.Goals as goal

pub put_six-requires-clause-room : goal.put_six-requires-clause-room
put_six-requires-clause-room t c =
    let m = c.args.n / 1000000 in
    let ends = c.put_long-end.ensures.lays.ends in
    let same = c.put_long-end.ensures.lays.same_length in
    let few : length (decimal m) ≤ 14 = length-decimal-le 14 m (omega arith) (omega arith) (omega arith) in
    omega arith

pub returns-else-n-lt1000000-clause-lays : goal.returns-else-n-lt1000000-clause-lays
returns-else-n-lt1000000-clause-lays t c =
    lays_as _ _ _ _ _ _ (six_behind c.args.n c.if-n-lt1000000.false (omega arith))
    (lays_then _ _ _ _ _ _ _ _ c.put_long-end.ensures.lays c.put_six.ensures)

pub returns-else-n-lt1000000-clause-short : goal.returns-else-n-lt1000000-clause-short
returns-else-n-lt1000000-clause-short t c =
    let n = c.args.n in
    let lays =
    lays_as _ _ _ _ _ _ (six_behind n c.if-n-lt1000000.false (omega arith))
    (lays_then _ _ _ _ _ _ _ _ c.put_long-end.ensures.lays c.put_six.ensures)
    in
    let ends = lays.ends in
    let few : length (decimal n) ≤ 20 = length-decimal-le 20 n (omega arith) (omega arith) (omega arith) in
    omega arith
