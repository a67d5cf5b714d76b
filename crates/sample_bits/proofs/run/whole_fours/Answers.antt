use Rattle.std.proofs.Common.{ℕ, ◌+◌, ◌*◌, ◌/◌, ◌-◌, ◌≤◌, arith}
use Rattle.std.proofs.Math.Nat.{mul-div-le}
use Rattle.std.proofs.lemmas.Nat.{mul-le}
use Rattle.sample_bits.proofs.run.whole_fours.Goals as goal

pub returns-else-len-end : goal.returns-else-len-end
returns-else-len-end g c four h =
    let m : ℕ = g.row.M in
    let spare : ℕ = c.args.len - (c.args.octet + 6 * m / 8 + 8) in
    let most : m * (spare / m) ≤ spare = mul-div-le spare m in
    let fewer : m * four ≤ m * (spare / m) = mul-le m four m (spare / m) (omega arith) (omega (arith, h)) in
    omega (arith, most, fewer, c.if-len-end.false)
