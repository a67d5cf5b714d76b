-- Bits put into an octet list by a word that is written over it.
use Rattle.std.proofs.Common.{◌≡◌, ℕ, ◌+◌, ◌-◌, ◌*◌, ◌%◌, ◌^◌, ◌<◌, ◌≤◌, bit_and, bit_or, List, length, sym, ap, ◌∙◌, arith, ⊎_elim}
use Rattle.std.specs.Int.{bit_at}
use Rattle.std.proofs.lemmas.Bool.{cases_lt}
use Rattle.std.proofs.lemmas.Nat.{one_shl, and_mask}
use Rattle.std.proofs.lemmas.Nat.Bits.{bit_at_or}
use Rattle.link_base.specs.Bits.{bit_of}
use Rattle.sample_bits.specs.Copied.{PutsBits}
use Rattle.sample_bits.proofs.BitLemmas.{bit_at-mod, bit_at-mod_above, bit_at-shl, bit_at-shl_below}
use Rattle.sample_bits.proofs.SignLemmas.{bit_at-low_mask}
use Rattle.sample_bits.proofs.OctetLemmas.{bit_of-past}

-- A word is written over octet o and those after it. From bit b on it has n of the bits that are put, and elsewhere it tells
-- the bits before them and those from the limit on.
pub PutsBits-word : (old new : List ℕ) (o b at n limit bits word : ℕ) → 8 * o + b ≡ at → b < 8 → b + n < 64 → length new ≡ length old → at + n ≤ limit → limit ≤ 8 * length old
    → ((j : ℕ) → j < b → bit_at word j ≡ bit_of old (8 * o + j))
    → ((j : ℕ) → j < n → bit_at word (b + j) ≡ bit_at bits j)
    → ((j : ℕ) → j < 64 → limit ≤ 8 * o + j → bit_at word j ≡ bit_of old (8 * o + j))
    → ((j : ℕ) → j < 64 → 8 * o + j < 8 * length old → bit_of new (8 * o + j) ≡ bit_at word j)
    → ((k : ℕ) → k < 8 * o → bit_of new k ≡ bit_of old k) → ((k : ℕ) → 8 * o + 64 ≤ k → bit_of new k ≡ bit_of old k)
    → PutsBits bits old new at n limit
PutsBits-word old new o b at n limit bits word place small few same within room low put high written before after = record {
  same_length = same;
  put = λ j h.
      let e : at + j ≡ 8 * o + (b + j) = omega arith in
      ap (bit_of new) e ∙ written (b + j) (omega arith) (omega arith) ∙ put j h;
  before = λ k h. ⊎_elim
      (before k)
      (λ inside.
      let e : 8 * o + (k - 8 * o) ≡ k = omega arith in
      ap (bit_of new) (sym e) ∙ written (k - 8 * o) (omega arith) (omega arith) ∙ low (k - 8 * o) (omega arith) ∙ ap (bit_of old) e)
      (cases_lt k (8 * o));
  after = λ k h. ⊎_elim
      (λ near. ⊎_elim
      (λ inside.
      let e : 8 * o + (k - 8 * o) ≡ k = omega arith in
      ap (bit_of new) (sym e) ∙ written (k - 8 * o) (omega arith) (omega arith) ∙ high (k - 8 * o) (omega arith) (omega arith) ∙ ap (bit_of old) e)
      (λ past. bit_of-past new k (omega arith) ∙ sym (bit_of-past old k past))
      (cases_lt k (8 * length old)))
      (after k)
      (cases_lt k (8 * o + 64));
}

-- ---- the lowest bits of an octet and a word behind them

abbrev pub behind_of : ℕ → ℕ → ℕ → ℕ
behind_of octet bit word = bit_or (bit_and octet (1 * 2 ^ bit % 2 ^ 64 - 1)) (word * 2 ^ bit % 2 ^ 64)

pub behind-octet : (octet bit word j : ℕ) → bit < 8 → j < bit → bit_at (behind_of octet bit word) j ≡ bit_at octet j
behind-octet octet bit word j small h =
    let both = bit_at_or (bit_and octet (1 * 2 ^ bit % 2 ^ 64 - 1)) (word * 2 ^ bit % 2 ^ 64) j in
    let kept = bit_at-low_mask octet bit j (omega arith) h in
    let none = bit_at-mod (word * 2 ^ bit) 64 j (omega arith) ∙ bit_at-shl_below word bit j h in
    omega arith

pub behind-word : (octet bit word j : ℕ) → bit < 8 → bit + j < 64 → bit_at (behind_of octet bit word) (bit + j) ≡ bit_at word j
behind-word octet bit word j small h =
    let both = bit_at_or (bit_and octet (1 * 2 ^ bit % 2 ^ 64 - 1)) (word * 2 ^ bit % 2 ^ 64) (bit + j) in
    let cut = ap (λ m. bit_at (bit_and octet (m - 1)) (bit + j)) (one_shl bit 64 (omega arith)) ∙ ap (λ v. bit_at v (bit + j)) (and_mask octet bit) ∙ bit_at-mod_above octet bit (bit + j) (omega arith) in
    let moved = bit_at-mod (word * 2 ^ bit) 64 (bit + j) h ∙ bit_at-shl word bit (bit + j) (omega arith) ∙ ap (bit_at word) (let e : bit + j - bit ≡ j = omega arith in e) in
    omega arith
