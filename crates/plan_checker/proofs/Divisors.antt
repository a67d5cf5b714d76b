-- Divisors of the numbers of a sample rate.
use Rattle.std.proofs.Common.{◌≡◌, ◌↔◌, ℕ, ◌<◌, arith, subst}
use Rattle.std.specs.Int.{IsGcd, ◌∣◌}
use Rattle.std.proofs.Math.Nat.{eq-zero_of_zero-dvd}
use Rattle.std.proofs.lemmas.Nat.Gcd.{dvd_antisymm, dvd_of_mod-eq-zero}
use Rattle.sample_bits.specs.SampleRate.{IsCoprime}

one_dvd : (n : ℕ) → 1 ∣ n
one_dvd n = dvd_of_mod-eq-zero 1 (omega arith)

pub IsCoprime-by_gcd : (a b g : ℕ) → IsGcd a b g → (g ≡ 1) ↔ IsCoprime a b
IsCoprime-by_gcd a b g h =
    (λ e d in_a in_b. dvd_antisymm (subst (λ n. d ∣ n) e (h.2 d in_a in_b)) (one_dvd d), λ coprime. coprime g h.0 h.1)

pub not_zero_from_dvd : (d n : ℕ) → 0 < n → d ∣ n → ¬ (d ≡ 0)
not_zero_from_dvd d n some h e =
    let none : n ≡ 0 = eq-zero_of_zero-dvd (subst (λ m. m ∣ n) e h) in
    omega arith
