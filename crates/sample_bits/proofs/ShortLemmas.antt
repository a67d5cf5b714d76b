-- Halves of at most 16 bits, spread and gathered both at once.
use Rattle.std.proofs.Common.{◌≡◌, ℕ, ◌+◌, ◌-◌, ◌*◌, ◌/◌, ◌%◌, ◌^◌, ◌<◌, ◌≤◌, bit_and, bit_or, sym, ap, ◌∙◌, arith, ⊎_elim}
use Rattle.std.specs.Int.{bit_at}
use Rattle.std.proofs.lemmas.Bool.{cases_lt}
use Rattle.std.proofs.lemmas.Nat.{and_mask}
use Rattle.std.proofs.lemmas.Nat.Bits.{bit_at_above, bit_at_or}
use Rattle.sample_bits.specs.Spread.{IsSpread}
use Rattle.sample_bits.proofs.BitLemmas.{lt_from_bits, bit_at-mod, bit_at-mod_above, bit_at-shl, bit_at-shl_below, bit_at-shr}

-- ---- both halves in one word, one after the other

abbrev pub beside : ℕ → ℕ → ℕ
beside even odd = bit_or even (odd * 2 ^ 16 % 2 ^ 64)

pub beside-low : (even odd j : ℕ) → j < 16 → bit_at (beside even odd) j ≡ bit_at even j
beside-low even odd j h =
    let both = bit_at_or even (odd * 2 ^ 16 % 2 ^ 64) j in
    let none = bit_at-mod (odd * 2 ^ 16) 64 j (omega arith) ∙ bit_at-shl_below odd 16 j h in
    omega arith

pub beside-high : (even odd j : ℕ) → even < 2 ^ 16 → odd < 2 ^ 16 → 16 ≤ j → bit_at (beside even odd) j ≡ bit_at odd (j - 16)
beside-high even odd j fits small h =
    let both = bit_at_or even (odd * 2 ^ 16 % 2 ^ 64) j in
    let none = bit_at_above even 16 j fits h in
    let moved = ⊎_elim
    (λ within. bit_at-mod (odd * 2 ^ 16) 64 j within ∙ bit_at-shl odd 16 j h)
    (λ above. bit_at-mod_above (odd * 2 ^ 16) 64 j above ∙ sym (bit_at_above odd 16 (j - 16) small (omega arith)))
    (cases_lt j 64) in
    omega arith

pub beside-lt : (even odd : ℕ) → even < 2 ^ 16 → odd < 2 ^ 16 → beside even odd < 2 ^ 32
beside-lt even odd fits small = lt_from_bits (beside even odd) 32 (λ j h. beside-high even odd j fits small (omega arith) ∙ bit_at_above odd 16 (j - 16) small (omega arith))

-- ---- both halves as runs of 16 bits

abbrev pub apart : ℕ → ℕ → ℕ
apart even odd = bit_or even (odd * 2 ^ 32 % 2 ^ 64)

apart-low : (even odd j : ℕ) → j < 32 → bit_at (apart even odd) j ≡ bit_at even j
apart-low even odd j h =
    let both = bit_at_or even (odd * 2 ^ 32 % 2 ^ 64) j in
    let none = bit_at-mod (odd * 2 ^ 32) 64 j (omega arith) ∙ bit_at-shl_below odd 32 j h in
    omega arith

apart-high : (even odd j : ℕ) → even < 2 ^ 16 → odd < 2 ^ 16 → 32 ≤ j → bit_at (apart even odd) j ≡ bit_at odd (j - 32)
apart-high even odd j fits small h =
    let both = bit_at_or even (odd * 2 ^ 32 % 2 ^ 64) j in
    let none = bit_at_above even 16 j fits (omega arith) in
    let moved = ⊎_elim
    (λ within. bit_at-mod (odd * 2 ^ 32) 64 j within ∙ bit_at-shl odd 32 j h)
    (λ above. bit_at-mod_above (odd * 2 ^ 32) 64 j above ∙ sym (bit_at_above odd 16 (j - 32) small (omega arith)))
    (cases_lt j 64) in
    omega arith

pub IsSpread-apart : (even odd : ℕ) → even < 2 ^ 16 → odd < 2 ^ 16 → IsSpread 16 (apart even odd) (bit_at (beside even odd))
IsSpread-apart even odd fits small = record {
  runs = λ a r h. ⊎_elim
      (λ first.
      let here : a * 32 + r ≡ r = omega arith in
      let there : a * 16 + r ≡ r = omega arith in
      ap (bit_at (apart even odd)) here ∙ apart-low even odd r (omega arith) ∙ sym (beside-low even odd r h) ∙ ap (bit_at (beside even odd)) (sym there))
      (λ next.
      apart-high even odd (a * 32 + r) fits small (omega arith)
      ∙ ⊎_elim
      (λ second. ap (bit_at odd) (let e : a * 32 + r - 32 ≡ a * 16 + r - 16 = omega arith in e))
      (λ past. bit_at_above odd 16 (a * 32 + r - 32) small (omega arith) ∙ sym (bit_at_above odd 16 (a * 16 + r - 16) small (omega arith)))
      (cases_lt a 2)
      ∙ sym (beside-high even odd (a * 16 + r) fits small (omega arith)))
      (cases_lt a 1);
  gaps = λ a r h. ⊎_elim
      (λ first. apart-low even odd (a * 32 + 16 + r) (omega arith) ∙ bit_at_above even 16 (a * 32 + 16 + r) fits (omega arith))
      (λ next. apart-high even odd (a * 32 + 16 + r) fits small (omega arith) ∙ bit_at_above odd 16 (a * 32 + 16 + r - 32) small (omega arith))
      (cases_lt a 1);
}

-- ---- the spread word folded at its middle

abbrev pub folded : ℕ → ℕ
folded x = bit_and (bit_or x (x / 2 ^ 31)) 0xffff_ffff

folded-bit : (x j : ℕ) → j < 32 → bit_at (folded x) j ≡ bit_at (bit_or x (x / 2 ^ 31)) j
folded-bit x j h = ap (λ v. bit_at v j) (and_mask (bit_or x (x / 2 ^ 31)) 32) ∙ bit_at-mod (bit_or x (x / 2 ^ 31)) 32 j h

folded-above : (x j : ℕ) → 32 ≤ j → bit_at (folded x) j ≡ 0
folded-above x j h = ap (λ v. bit_at v j) (and_mask (bit_or x (x / 2 ^ 31)) 32) ∙ bit_at-mod_above (bit_or x (x / 2 ^ 31)) 32 j h

pub woven_short-even : (even odd x j : ℕ) → even < 2 ^ 16 → odd < 2 ^ 16 → ((i : ℕ) → bit_at x (2 * i) ≡ bit_at (beside even odd) i) → ((i : ℕ) → bit_at x (2 * i + 1) ≡ 0) → bit_at (folded x) (2 * j) ≡ bit_at even j
woven_short-even even odd x j fits small evens odds = ⊎_elim
    (λ low.
    let both = bit_at_or x (x / 2 ^ 31) (2 * j) in
    let none = bit_at-shr x 31 (2 * j) ∙ ap (bit_at x) (let e : 31 + 2 * j ≡ 2 * (j + 15) + 1 = omega arith in e) ∙ odds (j + 15) in
    let here = evens j ∙ beside-low even odd j low in
    folded-bit x (2 * j) (omega arith) ∙ omega arith)
    (λ high. folded-above x (2 * j) (omega arith) ∙ sym (bit_at_above even 16 j fits high))
    (cases_lt j 16)

pub woven_short-odd : (even odd x j : ℕ) → even < 2 ^ 16 → odd < 2 ^ 16 → ((i : ℕ) → bit_at x (2 * i) ≡ bit_at (beside even odd) i) → ((i : ℕ) → bit_at x (2 * i + 1) ≡ 0) → bit_at (folded x) (2 * j + 1) ≡ bit_at odd j
woven_short-odd even odd x j fits small evens odds = ⊎_elim
    (λ low.
    let both = bit_at_or x (x / 2 ^ 31) (2 * j + 1) in
    let none = odds j in
    let here = bit_at-shr x 31 (2 * j + 1) ∙ ap (bit_at x) (let e : 31 + (2 * j + 1) ≡ 2 * (j + 16) = omega arith in e) ∙ evens (j + 16)
    ∙ beside-high even odd (j + 16) fits small (omega arith) ∙ ap (bit_at odd) (let e : j + 16 - 16 ≡ j = omega arith in e) in
    folded-bit x (2 * j + 1) (omega arith) ∙ omega arith)
    (λ high. folded-above x (2 * j + 1) (omega arith) ∙ sym (bit_at_above odd 16 j small high))
    (cases_lt j 16)

-- ---- a word of 32 bits unfolded to twice the length

abbrev pub unfolded : ℕ → ℕ
unfolded word = bit_or word (word * 2 ^ 31 % 2 ^ 64)

unfolded-low : (word j : ℕ) → j < 16 → bit_at (unfolded word) (2 * j) ≡ bit_at word (2 * j)
unfolded-low word j h =
    let both = bit_at_or word (word * 2 ^ 31 % 2 ^ 64) (2 * j) in
    let none = bit_at-mod (word * 2 ^ 31) 64 (2 * j) (omega arith) ∙ bit_at-shl_below word 31 (2 * j) (omega arith) in
    omega arith

unfolded-high : (word j : ℕ) → word < 2 ^ 32 → j < 16 → bit_at (unfolded word) (2 * (16 + j)) ≡ bit_at word (2 * j + 1)
unfolded-high word j fits h =
    let both = bit_at_or word (word * 2 ^ 31 % 2 ^ 64) (2 * (16 + j)) in
    let none = bit_at_above word 32 (2 * (16 + j)) fits (omega arith) in
    let moved = bit_at-mod (word * 2 ^ 31) 64 (2 * (16 + j)) (omega arith) ∙ bit_at-shl word 31 (2 * (16 + j)) (omega arith) ∙ ap (bit_at word) (let e : 2 * (16 + j) - 31 ≡ 2 * j + 1 = omega arith in e) in
    omega arith

unfolded-past : (word j : ℕ) → word < 2 ^ 32 → 16 ≤ j → bit_at (unfolded word) (2 * (16 + j)) ≡ 0
unfolded-past word j fits h =
    let both = bit_at_or word (word * 2 ^ 31 % 2 ^ 64) (2 * (16 + j)) in
    let none = bit_at_above word 32 (2 * (16 + j)) fits (omega arith) in
    let cut = bit_at-mod_above (word * 2 ^ 31) 64 (2 * (16 + j)) (omega arith) in
    omega arith

pub unwoven_short-even : (word both j : ℕ) → word < 2 ^ 32 → ((i : ℕ) → bit_at both i ≡ bit_at (unfolded word) (2 * i)) → bit_at (bit_and both 0xffff) j ≡ bit_at word (2 * j)
unwoven_short-even word both j fits gathered = ap (λ v. bit_at v j) (and_mask both 16) ∙ ⊎_elim
    (λ low. bit_at-mod both 16 j low ∙ gathered j ∙ unfolded-low word j low)
    (λ high. bit_at-mod_above both 16 j high ∙ sym (bit_at_above word 32 (2 * j) fits (omega arith)))
    (cases_lt j 16)

pub unwoven_short-odd : (word both j : ℕ) → word < 2 ^ 32 → ((i : ℕ) → bit_at both i ≡ bit_at (unfolded word) (2 * i)) → bit_at (both / 2 ^ 16) j ≡ bit_at word (2 * j + 1)
unwoven_short-odd word both j fits gathered = bit_at-shr both 16 j ∙ gathered (16 + j) ∙ ⊎_elim
    (λ low. unfolded-high word j fits low)
    (λ high. unfolded-past word j fits high ∙ sym (bit_at_above word 32 (2 * j + 1) fits (omega arith)))
    (cases_lt j 16)
