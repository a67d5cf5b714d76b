-- Bits of a mask.
use Rattle.std.proofs.Common.{◌≡◌, ℕ, zero, suc, ◌+◌, ◌-◌, ◌*◌, ◌/◌, ◌%◌, ◌^◌, ◌<◌, ◌≤◌, bit_and, bit_or, Bool, true, false, IsTrue, not, nat_eq, sym, ap, ◌∙◌, arith, ⊎_elim}
use Rattle.std.specs.Int.{bit_at}
use Rattle.std.proofs.Math.Nat.{pow-suc}
use Rattle.std.proofs.lemmas.Bool.{cases_lt, eq-eqb, eqb-true}
use Rattle.std.proofs.lemmas.Nat.{and_mask, mod_below, one_shl, pow_pos}
use Rattle.std.proofs.lemmas.Nat.Bits.{bit_at-zero, bit_at_above, bit_at_lowest, bit_at_or, bit_at-suc}
use Rattle.sample_bits.proofs.BitLemmas.{bit_at-mod, bit_at-mod_above, bit_at-shl, bit_at-shl_below, bit_at-shr, lt_from_bits}

-- a number that is not 0 has a bit that is 1
some_one : (n y : ℕ) → y < 2 ^ n → 0 < y → (j : ℕ) × (j < n) × (bit_at y j ≡ 1)
some_one zero y small some = absurd (omega arith)
some_one (suc n) y small some =
    ⊎_elim
    (λ even.
    let rest = some_one n (y / 2) (omega (arith, pow-suc 2 n)) (omega arith) in
    (suc rest.0, omega arith, bit_at-suc y rest.0 ∙ rest.2))
    (λ odd. (0, omega arith, bit_at_lowest y ∙ omega arith))
    (cases_lt (y % 2) 1)

-- The bits of a mask from bit `first` on, as many as there are to be, as the code takes them.
abbrev pub bits_from : ℕ → ℕ → ℕ → ℕ
bits_from mask first n = bit_and (mask / 2 ^ first) (1 * 2 ^ n % 2 ^ 128 - 1)

bits_from-is : (mask first n : ℕ) → n < 128 → bits_from mask first n ≡ mask / 2 ^ first % 2 ^ n
bits_from-is mask first n short = ap (λ x. bit_and (mask / 2 ^ first) (x - 1)) (one_shl n 128 short) ∙ and_mask (mask / 2 ^ first) n

bit_at-bits : (mask first n j : ℕ) → j < n → bit_at (mask / 2 ^ first % 2 ^ n) j ≡ bit_at mask (first + j)
bit_at-bits mask first n j h = bit_at-mod (mask / 2 ^ first) n j h ∙ bit_at-shr mask first j

-- Where they are not 0 one of them is 1,
pub one_from : (mask first n : ℕ) → n < 128 → (bits_from mask first n ≡ 0 → ⊥) → (j : ℕ) × (j < n) × (bit_at mask (first + j) ≡ 1)
one_from mask first n short some =
    let is = bits_from-is mask first n short in
    let small = mod_below (mask / 2 ^ first) (2 ^ n) (pow_pos n) in
    let one = some_one n (mask / 2 ^ first % 2 ^ n) small (⊎_elim (λ none. absurd (some (omega arith))) (λ h. h) (cases_lt (mask / 2 ^ first % 2 ^ n) 1)) in
    (one.0, one.1, sym (bit_at-bits mask first n one.0 one.1) ∙ one.2)

-- and else none.
pub none_from : (mask first n j : ℕ) → n < 128 → bits_from mask first n ≡ 0 → j < n → bit_at mask (first + j) ≡ 0
none_from mask first n j short none h =
    sym (bit_at-bits mask first n j h) ∙ ap (λ x. bit_at x j) (sym (bits_from-is mask first n short) ∙ none) ∙ bit_at-zero j

not_zero : (x : ℕ) → IsTrue (not (nat_eq x 0)) → x ≡ 0 → ⊥
not_zero x some none = let same : true ≡ false = sym some ∙ ap not (eq-eqb x 0 none) in cc

turned : (b : Bool) → not b ≡ false → b ≡ true
turned true none = cc
turned false none = let same : true ≡ false = none in cc

is_zero : (x : ℕ) → not (nat_eq x 0) ≡ false → x ≡ 0
is_zero x none = eqb-true x 0 (turned (nat_eq x 0) none)

-- the same of the bits from one to another
pub one_within : (mask first last : ℕ) → first ≤ last → last < 127 → IsTrue (not (nat_eq (bits_from mask first (last - first + 1)) 0)) → (p : ℕ) × (first ≤ p) × (p ≤ last) × (bit_at mask p ≡ 1)
one_within mask first last order short some =
    let one = one_from mask first (last - first + 1) (omega arith) (not_zero (bits_from mask first (last - first + 1)) some) in
    (first + one.0, omega arith, omega arith, one.2)

pub none_within : (mask first last p : ℕ) → first ≤ last → last < 127 → not (nat_eq (bits_from mask first (last - first + 1)) 0) ≡ false → first ≤ p → p ≤ last → bit_at mask p ≡ 0
none_within mask first last p order short none from to =
    let place : first + (p - first) ≡ p = omega arith in
    ap (bit_at mask) (sym place) ∙ none_from mask first (last - first + 1) (p - first) (omega arith) (is_zero (bits_from mask first (last - first + 1)) none) (omega arith)

-- ---- one more bit, put above those of a mask

abbrev pub with_bit : (width mask bit i : ℕ) → ℕ
with_bit width mask bit i = bit_or mask (bit * 2 ^ i % 2 ^ width)

module _ (width mask bit i : ℕ) (small : mask < 2 ^ i) (is_bit : bit ≤ 1) (within : i < width) where
  pub with_bit-below : (j : ℕ) → j < i → bit_at (with_bit width mask bit i) j ≡ bit_at mask j
  with_bit-below j below =
      let both = bit_at_or mask (bit * 2 ^ i % 2 ^ width) j in
      let none = bit_at-mod (bit * 2 ^ i) width j (omega arith) ∙ bit_at-shl_below bit i j below in
      omega arith

  pub with_bit-there : bit_at (with_bit width mask bit i) i ≡ bit
  with_bit-there =
      let both = bit_at_or mask (bit * 2 ^ i % 2 ^ width) i in
      let none = bit_at_above mask i i small (omega arith) in
      let first : i - i ≡ 0 = omega arith in
      let put = bit_at-mod (bit * 2 ^ i) width i within ∙ bit_at-shl bit i i (omega arith) ∙ ap (bit_at bit) first ∙ bit_at_lowest bit in
      omega arith

  with_bit-above : (j : ℕ) → i + 1 ≤ j → bit_at (with_bit width mask bit i) j ≡ 0
  with_bit-above j above =
      let both = bit_at_or mask (bit * 2 ^ i % 2 ^ width) j in
      let none = bit_at_above mask i j small (omega arith) in
      let other : bit_at (bit * 2 ^ i % 2 ^ width) j ≡ 0 = ⊎_elim
      (λ low. bit_at-mod (bit * 2 ^ i) width j low ∙ bit_at-shl bit i j (omega arith) ∙ bit_at_above bit 1 (j - i) (omega arith) (omega arith))
      (λ high. bit_at-mod_above (bit * 2 ^ i) width j high)
      (cases_lt j width) in
      omega arith

  pub with_bit-small : with_bit width mask bit i < 2 ^ (i + 1)
  with_bit-small = lt_from_bits (with_bit width mask bit i) (i + 1) with_bit-above
