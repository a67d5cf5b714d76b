-- One bit of a number that was shifted, cut or masked.
use Rattle.std.proofs.Common.{◌≡◌, ℕ, ◌+◌, ◌-◌, ◌*◌, ◌/◌, ◌%◌, ◌^◌, ◌<◌, ◌≤◌, bit_and, bit_or, min, max, sym, ap, ◌∙◌, arith, add-zero, ⊎_elim, subst}
use Rattle.std.specs.Int.{bit_at, w64}
use Rattle.std.proofs.lemmas.Bool.{cases_lt}
use Rattle.std.proofs.lemmas.Nat.{shr-shr, shr_split, pow_pos, one_shl, mod_below}
use Rattle.std.proofs.lemmas.Nat.Bits.{bit_at_cat_low, bit_at_cat_high, bit_at_above, bit_at-lt, bit_at_and, bit_at_or, bit_at_not, bit_at_ones, bit_at_ones_above, same_from_bits, bit_at-zero}

-- a number is twice its half, or one more
pub even_or_odd : (P : ℕ → Type 0) → ((b : ℕ) → P (2 * b)) → ((b : ℕ) → P (2 * b + 1)) → (a : ℕ) → P a
even_or_odd P even odd a =
    ⊎_elim
    (λ below. let e : 2 * (a / 2) ≡ a = omega arith in subst P e (even (a / 2)))
    (λ above. let e : 2 * (a / 2) + 1 ≡ a = omega arith in subst P e (odd (a / 2)))
    (cases_lt (a % 2) 1)

pub bit_at-shr : (n k i : ℕ) → bit_at (n / 2 ^ k) i ≡ bit_at n (k + i)
bit_at-shr n k i = ap (λ x. x % 2) (shr-shr n k i)

pub bit_at-mod : (n w i : ℕ) → i < w → bit_at (n % 2 ^ w) i ≡ bit_at n i
bit_at-mod n w i h = sym (bit_at_cat_low (n / 2 ^ w) w (n % 2 ^ w) i h) ∙ ap (λ x. bit_at x i) (shr_split n w)

pub bit_at-mod_above : (n w i : ℕ) → w ≤ i → bit_at (n % 2 ^ w) i ≡ 0
bit_at-mod_above n w i h = bit_at_above (n % 2 ^ w) w i (mod_below n (2 ^ w) (pow_pos w)) h

pub bit_at-shl_below : (n k i : ℕ) → i < k → bit_at (n * 2 ^ k) i ≡ 0
bit_at-shl_below n k i h = ap (λ x. bit_at x i) (sym (add-zero (n * 2 ^ k))) ∙ bit_at_cat_low n k 0 i h ∙ bit_at-zero i

pub bit_at-shl : (n k i : ℕ) → k ≤ i → bit_at (n * 2 ^ k) i ≡ bit_at n (i - k)
bit_at-shl n k i h = ap (λ x. bit_at x i) (sym (add-zero (n * 2 ^ k))) ∙ bit_at_cat_high n k 0 i (pow_pos k) h

-- A number whose bits from k on are 0 is below 2 ^ k.
pub lt_from_bits : (n k : ℕ) → ((i : ℕ) → k ≤ i → bit_at n i ≡ 0) → n < 2 ^ k
lt_from_bits n k above =
    let same : n ≡ n % 2 ^ k = same_from_bits n (n % 2 ^ k) (λ i. ⊎_elim (λ h. sym (bit_at-mod n k i h)) (λ h. above i h ∙ sym (bit_at-mod_above n k i h)) (cases_lt i k)) in
    omega (arith, mod_below n (2 ^ k) (pow_pos k))

-- ---- a mask of `count` ones from bit `at` on, as the code makes it

abbrev pub mask_of : ℕ → ℕ → ℕ
mask_of count at = (1 * 2 ^ count % 2 ^ 64 - 1) * 2 ^ at % 2 ^ 64

mask_is : (count at : ℕ) → count < 64 → mask_of count at ≡ (2 ^ count - 1) * 2 ^ at % 2 ^ 64
mask_is count at h = ap (λ x. (x - 1) * 2 ^ at % 2 ^ 64) (one_shl count 64 h)

mask-inside : (count at j : ℕ) → at + count < 64 → j < count → bit_at (mask_of count at) (at + j) ≡ 1
mask-inside count at j fits h =
    ap (λ x. bit_at x (at + j)) (mask_is count at (omega arith))
    ∙ bit_at-mod ((2 ^ count - 1) * 2 ^ at) 64 (at + j) (omega arith)
    ∙ bit_at-shl (2 ^ count - 1) at (at + j) (omega arith)
    ∙ bit_at_ones count (at + j - at) (omega arith)

mask-below : (count at k : ℕ) → at + count < 64 → k < at → bit_at (mask_of count at) k ≡ 0
mask-below count at k fits h =
    ap (λ x. bit_at x k) (mask_is count at (omega arith))
    ∙ bit_at-mod ((2 ^ count - 1) * 2 ^ at) 64 k (omega arith)
    ∙ bit_at-shl_below (2 ^ count - 1) at k h

mask-above : (count at k : ℕ) → at + count < 64 → at + count ≤ k → bit_at (mask_of count at) k ≡ 0
mask-above count at k fits h =
    ap (λ x. bit_at x k) (mask_is count at (omega arith))
    ∙ ⊎_elim
    (λ below. bit_at-mod ((2 ^ count - 1) * 2 ^ at) 64 k below
    ∙ bit_at-shl (2 ^ count - 1) at k (omega arith)
    ∙ bit_at_ones_above count (k - at) (omega arith))
    (λ above. bit_at-mod_above ((2 ^ count - 1) * 2 ^ at) 64 k above)
    (cases_lt k 64)

-- ---- the word of which `count` bits from bit `at` on are replaced

abbrev pub replaced_of : ℕ → ℕ → ℕ → ℕ → ℕ
replaced_of word bits at count = bit_or (bit_and word (2 ^ 64 - 1 - mask_of count at)) (bit_and (bits * 2 ^ at % 2 ^ 64) (mask_of count at))

replaced-bit : (word bits at count k : ℕ) → bit_at (replaced_of word bits at count) k ≡ max (min (bit_at word k) (bit_at (2 ^ 64 - 1 - mask_of count at) k)) (min (bit_at (bits * 2 ^ at % 2 ^ 64) k) (bit_at (mask_of count at) k))
replaced-bit word bits at count k =
    let m = mask_of count at in
    bit_at_or (bit_and word (2 ^ 64 - 1 - m)) (bit_and (bits * 2 ^ at % 2 ^ 64) m) k
    ∙ ap (λ x. max x (bit_at (bit_and (bits * 2 ^ at % 2 ^ 64) m) k)) (bit_at_and word (2 ^ 64 - 1 - m) k)
    ∙ ap (λ x. max (min (bit_at word k) (bit_at (2 ^ 64 - 1 - m) k)) x) (bit_at_and (bits * 2 ^ at % 2 ^ 64) m k)

mask_below-word : (count at : ℕ) → mask_of count at < 2 ^ 64
mask_below-word count at = mod_below ((1 * 2 ^ count % 2 ^ 64 - 1) * 2 ^ at) (2 ^ 64) (pow_pos 64)

pub replaced-inside : (word bits at count j : ℕ) → at + count < 64 → j < count → bit_at (replaced_of word bits at count) (at + j) ≡ bit_at bits j
replaced-inside word bits at count j fits h =
    let whole = replaced-bit word bits at count (at + j) in
    let inside = mask-inside count at j fits h in
    let turned = bit_at_not w64 (mask_of count at) (at + j) (mask_below-word count at) (omega arith) in
    let moved : bit_at (bits * 2 ^ at % 2 ^ 64) (at + j) ≡ bit_at bits j =
    bit_at-mod (bits * 2 ^ at) 64 (at + j) (omega arith) ∙ bit_at-shl bits at (at + j) (omega arith) ∙ ap (bit_at bits) (omega arith) in
    let bound = bit_at-lt bits j in
    omega arith

pub replaced-outside : (word bits at count k : ℕ) → word < 2 ^ 64 → bit_at (mask_of count at) k ≡ 0 → bit_at (replaced_of word bits at count) k ≡ bit_at word k
replaced-outside word bits at count k fits off =
    let whole = replaced-bit word bits at count k in
    let bound = bit_at-lt word k in
    ⊎_elim
    (λ below. let turned = bit_at_not w64 (mask_of count at) k (mask_below-word count at) below in omega arith)
    (λ above. let none = bit_at_above word 64 k fits above in omega arith)
    (cases_lt k 64)

pub replaced-before : (word bits at count k : ℕ) → word < 2 ^ 64 → at + count < 64 → k < at → bit_at (replaced_of word bits at count) k ≡ bit_at word k
replaced-before word bits at count k fits room h = replaced-outside word bits at count k fits (mask-below count at k room h)

pub replaced-after : (word bits at count k : ℕ) → word < 2 ^ 64 → at + count < 64 → at + count ≤ k → bit_at (replaced_of word bits at count) k ≡ bit_at word k
replaced-after word bits at count k fits room h = replaced-outside word bits at count k fits (mask-above count at k room h)
