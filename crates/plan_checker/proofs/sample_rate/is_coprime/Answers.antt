use Rattle.std.proofs.lemmas.Bool.Decides.{Decides-eqb, Decides-like}
use Rattle.plan_checker.proofs.Divisors.{IsCoprime-by_gcd}
use Rattle.plan_checker.proofs.sample_rate.is_coprime.Goals as goal

pub returns : goal.returns
returns c =
    let same = IsCoprime-by_gcd _ _ _ c.greatest_common_divisor.ensures in
    Decides-like _ same.0 same.1 (Decides-eqb c.greatest_common_divisor.result 1)
