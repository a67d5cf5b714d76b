-- Numbers in two's complement, and their bits.
use Rattle.std.proofs.Common.{◌≡◌, ℕ, ◌+◌, ◌-◌, ◌*◌, ◌/◌, ◌%◌, ◌^◌, ◌<◌, ◌≤◌, bit_and, ℤ, pos, negsuc, ◌-ℤ◌, to_z, of_z, w32, FitsSigned, sym, refl, ap, ◌∙◌, subst, arith, ⊎_elim}
use Rattle.std.specs.Int.{bit_at, w64}
use Rattle.std.proofs.lemmas.Bool.{cases_lt}
use Rattle.std.proofs.lemmas.Nat.{pow-add, pow_pos, pow_below, one_shl, and_mask, div_below, mod_below, mod-mul-add}
use Rattle.std.proofs.lemmas.Nat.Bits.{bit_at_not, bit_at_cat_low, bit_at_above, bit_at-lt, same_from_bits_below}
use Rattle.std.proofs.lemmas.Int.{ints, to_z_pos}
use Rattle.sample_bits.specs.Samples.{int_bit, FitsBits}
use Rattle.sample_bits.proofs.BitLemmas.{bit_at-mod}

pub pow_twice : (w : ℕ) → 1 ≤ w → 2 ^ w ≡ 2 * 2 ^ (w - 1)
pow_twice w h =
    let e : w ≡ (w - 1) + 1 = omega arith in
    ap (λ k. 2 ^ k) e ∙ pow-add 2 (w - 1) 1 ∙ omega arith

-- `1 << k`, signed
pub one_shl-signed : (k : ℕ) → k < 31 → to_z w32 (1 * 2 ^ k % 2 ^ 32) ≡ pos (2 ^ k)
one_shl-signed k h = ap (to_z w32) (one_shl k 32 (omega arith)) ∙ to_z_pos w32 (2 ^ k) (pow_below k 31 h)

-- the bits of a number of w bits, turned over
pub bit_at-turned : (w n j : ℕ) → w ≤ 64 → n < 2 ^ w → j < w → bit_at (2 ^ w - 1 - n) j ≡ 1 - bit_at n j
bit_at-turned w n j small fits h =
    let high : ℕ = 2 ^ (64 - w) - 1 in
    let all : (64 - w) + w ≡ 64 = omega arith in
    let upper : high + 1 ≡ 2 ^ (64 - w) = omega (arith, pow_pos (64 - w)) in
    let whole : (high + 1) * 2 ^ w ≡ 2 ^ 64 = ap (λ k. k * 2 ^ w) upper ∙ sym (pow-add 2 (64 - w) w) ∙ ap (λ k. 2 ^ k) all in
    let padded : high * 2 ^ w + (2 ^ w - 1 - n) ≡ 2 ^ 64 - 1 - n = omega arith in
    sym (bit_at_cat_low high w (2 ^ w - 1 - n) j h) ∙ ap (λ x. bit_at x j) padded ∙ bit_at_not w64 n j (omega arith) (omega arith)

-- a value's bits are those of its pattern at 32 bits
pub bit_at-of_z : (z : ℤ) (j : ℕ) → FitsSigned w32 z → j < 32 → bit_at (of_z w32 z) j ≡ int_bit z j
bit_at-of_z (pos n) j fits h = refl
bit_at-of_z (negsuc n) j fits h = ap (λ x. bit_at x j) (omega arith) ∙ bit_at_not w32 n j (omega (arith, ints)) h

pub bit_at-low_mask : (x w j : ℕ) → w < 64 → j < w → bit_at (bit_and x (1 * 2 ^ w % 2 ^ 64 - 1)) j ≡ bit_at x j
bit_at-low_mask x w j small h =
    ap (λ k. bit_at (bit_and x (k - 1)) j) (one_shl w 64 small) ∙ ap (λ k. bit_at k j) (and_mask x w) ∙ bit_at-mod x w j h

-- a number whose quotient is not 0 is no less than the divisor
least_from_quotient : (n h : ℕ) → 0 < h → (n / h ≡ 0 → ⊥) → h ≤ n
least_from_quotient n h some nonzero =
    ⊎_elim (λ below. absurd (nonzero (omega (arith, div_below n h 1 some (omega arith))))) (λ above. above) (cases_lt n h)

pub FitsBits-lowered : (w n : ℕ) → 1 ≤ w → n < 2 ^ w → (n / 2 ^ (w - 1) ≡ 0 → ⊥) → FitsBits w (negsuc (2 ^ w - 1 - n))
FitsBits-lowered w n some fits high =
    let half = least_from_quotient n (2 ^ (w - 1)) (pow_pos (w - 1)) high in
    let twice = pow_twice w some in
    (omega (arith, ints), omega (arith, ints))

pub int_bit-lowered : (w n j : ℕ) → w ≤ 64 → n < 2 ^ w → j < w → int_bit (negsuc (2 ^ w - 1 - n)) j ≡ bit_at n j
int_bit-lowered w n j small fits h = omega (arith, bit_at-turned w n j small fits h, bit_at-lt n j)

-- the highest of its bits tells the sign of a value
sign_bit-pos : (m n : ℕ) → 1 ≤ m → FitsBits m (pos n) → int_bit (pos n) (m - 1) ≡ 0
sign_bit-pos m n some fits = bit_at_above n (m - 1) (m - 1) (omega (arith, ints)) (omega arith)

magnitude-negsuc : (m n : ℕ) → FitsBits m (negsuc n) → n < 2 ^ (m - 1)
magnitude-negsuc m n fits = omega (arith, ints)

sign_bit-negsuc : (m n : ℕ) → 1 ≤ m → FitsBits m (negsuc n) → int_bit (negsuc n) (m - 1) ≡ 1
sign_bit-negsuc m n some fits = let zero = bit_at_above n (m - 1) (m - 1) (magnitude-negsuc m n fits) (omega arith) in omega arith

-- values of m bits with the same bits are equal
pub same_from_int_bits : (m : ℕ) (x y : ℤ) → 1 ≤ m → FitsBits m x → FitsBits m y → ((j : ℕ) → j < m → int_bit x j ≡ int_bit y j) → x ≡ y
same_from_int_bits m (pos a) (pos b) some fx fy same =
    ap pos (same_from_bits_below (m - 1) a b (omega (arith, ints)) (omega (arith, ints)) (λ j h. same j (omega arith)))
same_from_int_bits m (negsuc a) (negsuc b) some fx fy same =
    ap negsuc (same_from_bits_below (m - 1) a b (magnitude-negsuc m a fx) (magnitude-negsuc m b fy)
    (λ j h. let e = same j (omega arith) in omega (arith, bit_at-lt a j, bit_at-lt b j)))
same_from_int_bits m (pos a) (negsuc b) some fx fy same =
    let e = same (m - 1) (omega arith) in
    absurd (omega (arith, sign_bit-pos m a some fx, sign_bit-negsuc m b some fy))
same_from_int_bits m (negsuc a) (pos b) some fx fy same =
    let e = same (m - 1) (omega arith) in
    absurd (omega (arith, sign_bit-negsuc m a some fx, sign_bit-pos m b some fy))

-- ---- the value of a pattern of w bits as the code finds it: half is added, cut to w bits, and taken away again

abbrev pub half_of : ℕ → ℕ
half_of w = 1 * 2 ^ (w - 1) % 2 ^ 64

abbrev pub raised_of : ℕ → ℕ → ℕ
raised_of w n = bit_and (n + half_of w) (1 * 2 ^ w % 2 ^ 64 - 1)

half_is : (w : ℕ) → w ≤ 30 → half_of w ≡ 2 ^ (w - 1)
half_is w small = one_shl (w - 1) 64 (omega arith)

raised_is : (w n : ℕ) → w ≤ 30 → raised_of w n ≡ (n + 2 ^ (w - 1)) % 2 ^ w
raised_is w n small =
    ap (λ k. bit_and (n + half_of w) (k - 1)) (one_shl w 64 (omega arith)) ∙ and_mask (n + half_of w) w ∙ ap (λ k. (n + k) % 2 ^ w) (half_is w small)

raised-low : (w n : ℕ) → 1 ≤ w → w ≤ 30 → n < 2 ^ (w - 1) → raised_of w n ≡ n + 2 ^ (w - 1)
raised-low w n some small low =
    let twice = pow_twice w some in
    raised_is w n small ∙ ap (λ k. k % 2 ^ w) (let e : n + 2 ^ (w - 1) ≡ 0 * 2 ^ w + (n + 2 ^ (w - 1)) = omega arith in e) ∙ mod-mul-add 0 (2 ^ w) (n + 2 ^ (w - 1)) (omega arith)

raised-high : (w n : ℕ) → 1 ≤ w → w ≤ 30 → n < 2 ^ w → 2 ^ (w - 1) ≤ n → raised_of w n ≡ n - 2 ^ (w - 1)
raised-high w n some small fits high =
    let twice = pow_twice w some in
    raised_is w n small ∙ ap (λ k. k % 2 ^ w) (let e : n + 2 ^ (w - 1) ≡ 1 * 2 ^ w + (n - 2 ^ (w - 1)) = omega arith in e) ∙ mod-mul-add 1 (2 ^ w) (n - 2 ^ (w - 1)) (omega arith)

pub half-lt : (w : ℕ) → w ≤ 30 → half_of w < 2 ^ 30
half-lt w small = omega (arith, half_is w small, pow_below (w - 1) 30 (omega arith))

pub raised-lt : (w n : ℕ) → w ≤ 30 → raised_of w n < 2 ^ 31
raised-lt w n small = omega (arith, raised_is w n small, mod_below (n + 2 ^ (w - 1)) (2 ^ w) (pow_pos w), pow_below w 31 (omega arith))

abbrev pub signed_of : ℕ → ℕ → ℤ
signed_of w n = to_z w32 (of_z w32 (to_z w32 (raised_of w n) -ℤ to_z w32 (half_of w)))

signed-low : (w n : ℕ) → 1 ≤ w → w ≤ 30 → n < 2 ^ (w - 1) → signed_of w n ≡ pos n
signed-low w n some small low =
    let raised = raised-low w n some small low in
    let half = half_is w small in
    let bound = pow_below (w - 1) 30 (omega arith) in
    let value = to_z_pos w32 (raised_of w n) (raised-lt w n small) in
    let least = to_z_pos w32 (half_of w) (omega (arith, half-lt w small)) in
    omega (arith, ints)

signed-high : (w n : ℕ) → 1 ≤ w → w ≤ 30 → n < 2 ^ w → 2 ^ (w - 1) ≤ n → signed_of w n ≡ negsuc (2 ^ w - 1 - n)
signed-high w n some small fits high =
    let raised = raised-high w n some small fits high in
    let half = half_is w small in
    let twice = pow_twice w some in
    let bound = pow_below (w - 1) 30 (omega arith) in
    let value = to_z_pos w32 (raised_of w n) (raised-lt w n small) in
    let least = to_z_pos w32 (half_of w) (omega (arith, half-lt w small)) in
    omega (arith, ints)

-- it is a number of w bits
pub FitsBits-signed : (w n : ℕ) → 1 ≤ w → w ≤ 30 → n < 2 ^ w → FitsBits w (signed_of w n)
FitsBits-signed w n some small fits =
    let P : ℤ → Type 0 = FitsBits w in
    ⊎_elim
    (λ low. subst P (sym (signed-low w n some small low)) (omega (arith, ints), omega (arith, ints)))
    (λ high. subst P (sym (signed-high w n some small fits high)) (let twice = pow_twice w some in (omega (arith, ints), omega (arith, ints))))
    (cases_lt n (2 ^ (w - 1)))

-- with these bits
pub int_bit-signed : (w n j : ℕ) → 1 ≤ w → w ≤ 30 → n < 2 ^ w → j < w → int_bit (signed_of w n) j ≡ bit_at n j
int_bit-signed w n j some small fits h =
    ⊎_elim
    (λ low. ap (λ z. int_bit z j) (signed-low w n some small low))
    (λ high. ap (λ z. int_bit z j) (signed-high w n some small fits high) ∙ int_bit-lowered w n j (omega arith) fits h)
    (cases_lt n (2 ^ (w - 1)))

-- and no step leaves 32 bits
pub FitsSigned-raised : (w n : ℕ) → w ≤ 30 → FitsSigned w32 (pos (raised_of w n))
FitsSigned-raised w n small = let bound = raised-lt w n small in omega (arith, ints)

pub FitsSigned-half : (w : ℕ) → w ≤ 30 → FitsSigned w32 (pos (half_of w))
FitsSigned-half w small = let bound = half-lt w small in omega (arith, ints)

pub FitsSigned-difference : (w n : ℕ) → w ≤ 30 → FitsSigned w32 (to_z w32 (raised_of w n) -ℤ to_z w32 (half_of w))
FitsSigned-difference w n small =
    let high = raised-lt w n small in
    let low = half-lt w small in
    let value = to_z_pos w32 (raised_of w n) high in
    let least = to_z_pos w32 (half_of w) (omega arith) in
    omega (arith, ints)
