-- A sample's bits, against the numbers that its halves are woven into.
use Rattle.std.proofs.Common.{◌≡◌, ℕ, ◌+◌, ◌*◌, ◌/◌, ◌%◌, ◌^◌, ◌<◌, ◌≤◌, ℤ, cond, eqb, sym, ap, ◌∙◌, arith}
use Rattle.std.specs.Int.{bit_at}
use Rattle.std.proofs.lemmas.Nat.Bits.{bit_at_above}
use Rattle.sample_bits.specs.declared.iq.RawIq.{RawIq}
use Rattle.sample_bits.specs.Samples.{int_bit, sample_bit, IsWithin}
use Rattle.sample_bits.proofs.BitLemmas.{even_or_odd, lt_from_bits}
use Rattle.sample_bits.proofs.SignLemmas.{same_from_int_bits}

pub sample_bit-even : (s : RawIq) (j : ℕ) → sample_bit s (2 * j) ≡ int_bit s.i j
sample_bit-even s j =
    let rest : 2 * j % 2 ≡ 0 = omega arith in
    let half : 2 * j / 2 ≡ j = omega arith in
    ap (λ r. cond (eqb r 0) (int_bit s.i (2 * j / 2)) (int_bit s.q (2 * j / 2))) rest ∙ ap (int_bit s.i) half

pub sample_bit-odd : (s : RawIq) (j : ℕ) → sample_bit s (2 * j + 1) ≡ int_bit s.q j
sample_bit-odd s j =
    let rest : (2 * j + 1) % 2 ≡ 1 = omega arith in
    let half : (2 * j + 1) / 2 ≡ j = omega arith in
    ap (λ r. cond (eqb r 0) (int_bit s.i ((2 * j + 1) / 2)) (int_bit s.q ((2 * j + 1) / 2))) rest ∙ ap (int_bit s.q) half

-- the bits of a word at the even places are those of e, and at the odd places those of o
pub woven-sample : (m : ℕ) (s : RawIq) (word e o : ℕ) → ((j : ℕ) → bit_at word (2 * j) ≡ bit_at e j) → ((j : ℕ) → bit_at word (2 * j + 1) ≡ bit_at o j) → ((j : ℕ) → j < m → bit_at e j ≡ int_bit s.i j) → ((j : ℕ) → j < m → bit_at o j ≡ int_bit s.q j) → (k : ℕ) → k < 2 * m → bit_at word k ≡ sample_bit s k
woven-sample m s word e o evens odds is qs =
    even_or_odd (λ k. k < 2 * m → bit_at word k ≡ sample_bit s k)
    (λ j h. evens j ∙ is j (omega arith) ∙ sym (sample_bit-even s j))
    (λ j h. odds j ∙ qs j (omega arith) ∙ sym (sample_bit-odd s j))

pub woven-lt : (m word e o : ℕ) → ((j : ℕ) → bit_at word (2 * j) ≡ bit_at e j) → ((j : ℕ) → bit_at word (2 * j + 1) ≡ bit_at o j) → e < 2 ^ m → o < 2 ^ m → word < 2 ^ (2 * m)
woven-lt m word e o evens odds e_fits o_fits =
    lt_from_bits word (2 * m)
    (even_or_odd (λ k. 2 * m ≤ k → bit_at word k ≡ 0)
    (λ j h. evens j ∙ bit_at_above e m j e_fits (omega arith))
    (λ j h. odds j ∙ bit_at_above o m j o_fits (omega arith)))

pub gathered-even_lt : (m word e : ℕ) → word < 2 ^ (2 * m) → ((j : ℕ) → bit_at e j ≡ bit_at word (2 * j)) → e < 2 ^ m
gathered-even_lt m word e fits evens = lt_from_bits e m (λ j h. evens j ∙ bit_at_above word (2 * m) (2 * j) fits (omega arith))

pub gathered-odd_lt : (m word o : ℕ) → word < 2 ^ (2 * m) → ((j : ℕ) → bit_at o j ≡ bit_at word (2 * j + 1)) → o < 2 ^ m
gathered-odd_lt m word o fits odds = lt_from_bits o m (λ j h. odds j ∙ bit_at_above word (2 * m) (2 * j + 1) fits (omega arith))

pub gathered-sample : (m : ℕ) (s : RawIq) (word e o : ℕ) → ((j : ℕ) → bit_at e j ≡ bit_at word (2 * j)) → ((j : ℕ) → bit_at o j ≡ bit_at word (2 * j + 1)) → ((j : ℕ) → j < m → int_bit s.i j ≡ bit_at e j) → ((j : ℕ) → j < m → int_bit s.q j ≡ bit_at o j) → (k : ℕ) → k < 2 * m → sample_bit s k ≡ bit_at word k
gathered-sample m s word e o evens odds is qs =
    even_or_odd (λ k. k < 2 * m → sample_bit s k ≡ bit_at word k)
    (λ j h. sample_bit-even s j ∙ is j (omega arith) ∙ evens j)
    (λ j h. sample_bit-odd s j ∙ qs j (omega arith) ∙ odds j)

-- samples of m bits with the same bits are equal
pub same_from_sample_bits : (m : ℕ) (s t : RawIq) → 1 ≤ m → IsWithin m s → IsWithin m t → ((k : ℕ) → k < 2 * m → sample_bit s k ≡ sample_bit t k) → s ≡ t
same_from_sample_bits m s t some s_fits t_fits same =
    let pair : ℤ → ℤ → RawIq = λ i q. record { i = i; q = q } in
    let is : s.i ≡ t.i = same_from_int_bits m s.i t.i some s_fits.i t_fits.i (λ j h. sym (sample_bit-even s j) ∙ same (2 * j) (omega arith) ∙ sample_bit-even t j) in
    let qs : s.q ≡ t.q = same_from_int_bits m s.q t.q some s_fits.q t_fits.q (λ j h. sym (sample_bit-odd s j) ∙ same (2 * j + 1) (omega arith) ∙ sample_bit-odd t j) in
    ap (λ i. pair i s.q) is ∙ ap (pair t.i) qs
