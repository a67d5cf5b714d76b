-- Numbers of a sample rate, and quotients that are rounded up.
use Rattle.std.proofs.Common.{◌≡◌, ℕ, ◌+◌, ◌-◌, ◌*◌, ◌<◌, ◌≤◌, arith, subst, ⊎_elim}
use Rattle.std.specs.Int.{div_ceil, ◌∣◌}
use Rattle.std.proofs.Math.Nat.{eq-zero_of_zero-dvd, eq-one_of_dvd-one, dvd-mul_right, dvd-mul_right_of_dvd, dvd-sub}
use Rattle.std.proofs.lemmas.Bool.{cases_lt}
use Rattle.std.proofs.lemmas.Nat.{mul-le}
use Rattle.std.proofs.lemmas.Grind.{div_ceil_times}
use Rattle.sample_bits.specs.SampleRate.{IsSampleRate}

not_zero : (d n : ℕ) → 0 < n → d ∣ n → ¬ (d ≡ 0)
not_zero d n some h e =
    let none : n ≡ 0 = eq-zero_of_zero-dvd (subst (λ m. m ∣ n) e h) in
    omega arith

pub some_frames : (s k : ℕ) → IsSampleRate s k → 1 ≤ k
some_frames s k rate =
    ⊎_elim
    (λ zero. absurd (not_zero k 38_400 (omega arith) rate.divides (omega arith)))
    (λ some. some)
    (cases_lt k 1)

pub few_samples : (s k : ℕ) → IsSampleRate s k → s ≤ 3_072
few_samples s k rate = omega (arith, rate.short, rate.slow)

pub div_ceil-enough : (n d : ℕ) → 0 < d → n ≤ div_ceil n d * d
div_ceil-enough n d some = (div_ceil_times n d some).0

pub div_ceil-least : (n d : ℕ) → 0 < d → div_ceil n d * d < n + d
div_ceil-least n d some = (div_ceil_times n d some).1

-- a factor is less where its product is
pub lt-cancel : (a b d : ℕ) → a * d < b * d → a < b
lt-cancel a b d less = ⊎_elim (λ h. h) (λ above. absurd (omega (arith, less, mul-le b d a d above (omega arith)))) (cases_lt a b)

-- between which multiples of the divisor a number lies
pub div_ceil-le : (a d n : ℕ) → 0 < d → a ≤ n * d → div_ceil a d ≤ n
div_ceil-le a d n some below =
    let least = div_ceil-least a d some in
    let less = lt-cancel (div_ceil a d) (n + 1) d (omega arith) in
    omega arith

pub lt-div_ceil : (a d n : ℕ) → 0 < d → n * d < a → n < div_ceil a d
lt-div_ceil a d n some above =
    let enough = div_ceil-enough a d some in
    lt-cancel n (div_ceil a d) d (omega arith)

pub div_ceil-between : (a d n : ℕ) → 0 < d → n * d < a → a ≤ (n + 1) * d → div_ceil a d ≡ n + 1
div_ceil-between a d n some above below =
    let least = div_ceil-le a d (n + 1) some below in
    let more = lt-div_ceil a d n some above in
    omega arith

-- a rate by a multiple of s that is one more than a multiple of k
pub IsSampleRate-by : (s k p q blocks : ℕ) → s * p ≡ k * q + 1 → k * blocks ≡ 38_400 → k ≤ 96 → 1 ≤ s → s ≤ 32 * k → IsSampleRate s k
IsSampleRate-by s k p q blocks one whole short some slow = record {
  divides = subst (λ n. k ∣ n) whole (dvd-mul_right k blocks);
  short = short;
  some_samples = some;
  slow = slow;
  lowest_terms = λ d in_s in_k.
      let sum : s * p - k * q ≡ 1 = omega arith in
      eq-one_of_dvd-one (subst (λ n. d ∣ n) sum (dvd-sub d (dvd-mul_right_of_dvd d in_s p) (dvd-mul_right_of_dvd d in_k q)));
}
