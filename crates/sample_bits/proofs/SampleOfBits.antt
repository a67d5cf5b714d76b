-- The sample that given bits stand for is the one sample of its width with these bits.
use Rattle.std.proofs.Common.{◌≡◌, ℕ, zero, suc, ◌+◌, ◌-◌, ◌*◌, ◌/◌, ◌^◌, ◌<◌, ◌≤◌, List, pos, negsuc, eqb, sym, refl, ap, ◌∙◌, arith, ⊎_elim}
use Rattle.std.specs.Int.{bit_at}
use Rattle.std.proofs.Math.Nat.{pow-suc}
use Rattle.std.proofs.lemmas.Bool.{cases_lt, cond_both, eqb-true, eqb-false}
use Rattle.std.proofs.lemmas.Int.{ints}
use Rattle.std.proofs.lemmas.Nat.{pow_pos, le-div}
use Rattle.std.proofs.lemmas.Nat.Bits.{bit_at_lowest, bit_at-lt, bit_at-suc}
use Rattle.link_base.specs.Bits.{bit_of}
use Rattle.sample_bits.specs.declared.iq.RawIq.{RawIq}
use Rattle.sample_bits.specs.Samples.{FitsBits, IsWithin, int_bit, sample_bit}
use Rattle.sample_bits.proofs.BitLemmas.{even_or_odd}
use Rattle.sample_bits.proofs.SampleLemmas.{sample_bit-even, sample_bit-odd, same_from_sample_bits}
use Rattle.sample_bits.proofs.SignLemmas.{FitsBits-lowered, int_bit-lowered}
use Rattle.sample_bits.specs.SampleOfBits.{number_of_bits, in_complement, sample_at, sample_of_bits}

-- each of the first n bits is 0 or 1
abbrev pub AreBits : ℕ → (ℕ → ℕ) → Type 0
AreBits n bits = (b : ℕ) → b < n → bits b ≤ 1

-- the first n bits are the same
abbrev pub AgreeBelow : ℕ → (ℕ → ℕ) → (ℕ → ℕ) → Type 0
AgreeBelow n bits others = (b : ℕ) → b < n → bits b ≡ others b

-- ---- the number of bits

number_of_bits-lt : (m : ℕ) (bits : ℕ → ℕ) → AreBits m bits → number_of_bits m bits < 2 ^ m
number_of_bits-lt zero bits small = omega arith
number_of_bits-lt (suc m) bits small =
    let rest = number_of_bits-lt m (λ j. bits (j + 1)) (λ b h. small (b + 1) (omega arith)) in
    let first = small 0 (omega arith) in
    omega (arith, pow-suc 2 m)

bit_at-number_of_bits : (m : ℕ) (bits : ℕ → ℕ) (j : ℕ) → AreBits m bits → j < m → bit_at (number_of_bits m bits) j ≡ bits j
bit_at-number_of_bits zero bits j small h = absurd (omega arith)
bit_at-number_of_bits (suc m) bits zero small h =
    let first = small 0 (omega arith) in
    bit_at_lowest (bits 0 + 2 * number_of_bits m (λ j. bits (j + 1))) ∙ omega arith
bit_at-number_of_bits (suc m) bits (suc j) small h =
    let rest = number_of_bits m (λ i. bits (i + 1)) in
    let first = small 0 (omega arith) in
    let half : (bits 0 + 2 * rest) / 2 ≡ rest = omega arith in
    let place : j + 1 ≡ suc j = omega arith in
    bit_at-suc (bits 0 + 2 * rest) j ∙ ap (λ n. bit_at n j) half
    ∙ bit_at-number_of_bits m (λ i. bits (i + 1)) j (λ b within. small (b + 1) (omega arith)) (omega arith) ∙ ap bits place

number_of_bits-same : (m : ℕ) (bits others : ℕ → ℕ) → AgreeBelow m bits others → number_of_bits m bits ≡ number_of_bits m others
number_of_bits-same zero bits others same = refl
number_of_bits-same (suc m) bits others same =
    let rest = number_of_bits-same m (λ j. bits (j + 1)) (λ j. others (j + 1)) (λ b h. same (b + 1) (omega arith)) in
    let first = same 0 (omega arith) in
    omega arith

-- ---- its value in two's complement

-- a number with quotient 0 is less than the divisor
below_from_quotient : (n h : ℕ) → 0 < h → n / h ≡ 0 → n < h
below_from_quotient n h some low =
    ⊎_elim (λ below. below) (λ above. absurd (omega (arith, le-div 1 n h some (omega arith)))) (cases_lt n h)

FitsBits-pos : (m n : ℕ) → n / 2 ^ (m - 1) ≡ 0 → FitsBits m (pos n)
FitsBits-pos m n low =
    let some = pow_pos (m - 1) in
    let half : n < 2 ^ (m - 1) = below_from_quotient n (2 ^ (m - 1)) some low in
    (omega (arith, ints), omega (arith, ints))

FitsBits-in_complement : (m n : ℕ) → 1 ≤ m → n < 2 ^ m → FitsBits m (in_complement m n)
FitsBits-in_complement m n some fits =
    cond_both (eqb (n / 2 ^ (m - 1)) 0) (pos n) (negsuc (2 ^ m - 1 - n)) (FitsBits m)
    (λ e. FitsBits-pos m n (eqb-true (n / 2 ^ (m - 1)) 0 e))
    (λ e. FitsBits-lowered m n some fits (eqb-false (n / 2 ^ (m - 1)) 0 e))

int_bit-in_complement : (m n j : ℕ) → m ≤ 64 → n < 2 ^ m → j < m → int_bit (in_complement m n) j ≡ bit_at n j
int_bit-in_complement m n j small fits h =
    cond_both (eqb (n / 2 ^ (m - 1)) 0) (pos n) (negsuc (2 ^ m - 1 - n)) (λ z. int_bit z j ≡ bit_at n j)
    (λ e. refl)
    (λ e. int_bit-lowered m n j small fits h)

-- ---- the sample

-- of so few bits of I and Q each
pub IsWithin-sample_of_bits : (m : ℕ) (bits : ℕ → ℕ) → 1 ≤ m → AreBits (2 * m) bits → IsWithin m (sample_of_bits m bits)
unfolding sample_of_bits
IsWithin-sample_of_bits m bits some small = record {
  i = FitsBits-in_complement m (number_of_bits m (λ j. bits (2 * j))) some (number_of_bits-lt m (λ j. bits (2 * j)) (λ b h. small (2 * b) (omega arith)));
  q = FitsBits-in_complement m (number_of_bits m (λ j. bits (2 * j + 1))) some (number_of_bits-lt m (λ j. bits (2 * j + 1)) (λ b h. small (2 * b + 1) (omega arith)));
}

half_bit : (m j : ℕ) (bits : ℕ → ℕ) → m ≤ 64 → AreBits m bits → j < m → int_bit (in_complement m (number_of_bits m bits)) j ≡ bits j
half_bit m j bits few small h =
    int_bit-in_complement m (number_of_bits m bits) j few (number_of_bits-lt m bits small) h ∙ bit_at-number_of_bits m bits j small h

-- with these bits
pub sample_bit-sample_of_bits : (m : ℕ) (bits : ℕ → ℕ) (k : ℕ) → m ≤ 64 → AreBits (2 * m) bits → k < 2 * m → sample_bit (sample_of_bits m bits) k ≡ bits k
unfolding sample_of_bits
sample_bit-sample_of_bits m bits k few small =
    let s = sample_of_bits m bits in
    even_or_odd (λ n. n < 2 * m → sample_bit s n ≡ bits n)
    (λ j h. sample_bit-even s j ∙ half_bit m j (λ i. bits (2 * i)) few (λ b within. small (2 * b) (omega arith)) (omega arith))
    (λ j h. sample_bit-odd s j ∙ half_bit m j (λ i. bits (2 * i + 1)) few (λ b within. small (2 * b + 1) (omega arith)) (omega arith))
    k

-- and no other sample of that width has them
pub sample_of_bits-unique : (m : ℕ) (bits : ℕ → ℕ) (s : RawIq) → 1 ≤ m → m ≤ 64 → AreBits (2 * m) bits → IsWithin m s → AgreeBelow (2 * m) (sample_bit s) bits → s ≡ sample_of_bits m bits
sample_of_bits-unique m bits s some few small fits same =
    same_from_sample_bits m s (sample_of_bits m bits) some fits (IsWithin-sample_of_bits m bits some small)
    (λ k h. same k h ∙ sym (sample_bit-sample_of_bits m bits k few small h))

-- bits that agree stand for one sample
pub sample_of_bits-same : (m : ℕ) (bits others : ℕ → ℕ) → AgreeBelow (2 * m) bits others → sample_of_bits m bits ≡ sample_of_bits m others
unfolding sample_of_bits
sample_of_bits-same m bits others same =
    let halves : ℕ → ℕ → RawIq = λ i q. record { i = in_complement m i; q = in_complement m q } in
    let i = number_of_bits-same m (λ j. bits (2 * j)) (λ j. others (2 * j)) (λ b h. same (2 * b) (omega arith)) in
    let q = number_of_bits-same m (λ j. bits (2 * j + 1)) (λ j. others (2 * j + 1)) (λ b h. same (2 * b + 1) (omega arith)) in
    ap (λ n. halves n (number_of_bits m (λ j. bits (2 * j + 1)))) i ∙ ap (halves (number_of_bits m (λ j. others (2 * j)))) q

-- the sample that a word gives whose bits stand in the octets
pub sample_at-word : (m : ℕ) (octets : List ℕ) (from word : ℕ) (s : RawIq) → 1 ≤ m → m ≤ 32 → IsWithin m s → ((k : ℕ) → k < 2 * m → sample_bit s k ≡ bit_at word k)
    → ((b : ℕ) → b < 2 * m → bit_at word b ≡ bit_of octets (from + b)) → s ≡ sample_at m octets from
sample_at-word m octets from word s some few within bits there =
    sample_of_bits-unique m (bit_at word) s (omega arith) (omega arith) (λ b h. omega (arith, bit_at-lt word b)) within bits
    ∙ sample_of_bits-same m (bit_at word) (λ b. bit_of octets (from + b)) there
