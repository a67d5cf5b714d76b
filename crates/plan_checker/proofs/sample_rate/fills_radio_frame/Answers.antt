use Rattle.std.proofs.Common.{◌%◌, arith}
use Rattle.std.proofs.lemmas.Bool.Decides.{Decides-eqb, Decides-like, nat_tests}
use Rattle.std.proofs.lemmas.Nat.Gcd.{dvd_of_mod-eq-zero, mod-eq-zero_of_dvd}
use Rattle.plan_checker.proofs.Divisors.{not_zero_from_dvd}
use Rattle.plan_checker.proofs.sample_rate.fills_radio_frame.Goals as goal

pub returns-then-k-ne0 : goal.returns-then-k-ne0
returns-then-k-ne0 c =
    Decides-like _ (dvd_of_mod-eq-zero c.args.k) (mod-eq-zero_of_dvd c.args.k) (Decides-eqb (38_400 % c.args.k) 0)

pub returns-else-k-ne0 : goal.returns-else-k-ne0
returns-else-k-ne0 c =
    (λ t. absurd (grind (arith, nat_tests)), λ d. absurd (not_zero_from_dvd c.args.k 38_400 (omega arith) d c.if-k-ne0.false))
