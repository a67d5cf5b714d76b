use Rattle.std.proofs.Common.{◌≤◌, length, decimal, arith}
use Rattle.std.proofs.lemmas.Fmt.{length-decimal-le}
use Rattle.link_run_entries.proofs.digits.put_size.Goals as goal

pub returns-else-n-lt1000000-clause-short : goal.returns-else-n-lt1000000-clause-short
returns-else-n-lt1000000-clause-short c =
    let n = c.from.result in
    let ends = c.put_long.ensures.lays.ends in
    let few : length (decimal n) ≤ 10 = length-decimal-le 10 n (omega arith) (omega arith) (omega arith) in
    omega arith
