-- Bits behind the bits of a word, and bits of which the first stand in octets and the last in a word.
use Rattle.std.proofs.Common.{◌≡◌, ℕ, ◌+◌, ◌-◌, ◌*◌, ◌/◌, ◌%◌, ◌^◌, ◌<◌, ◌≤◌, bit_or, List, length, take, drop, cond, ltb, sym, ap, ◌∙◌, arith, ⊎_elim}
use Rattle.std.specs.Int.{bit_at}
use Rattle.std.proofs.lemmas.Bool.{cases_lt, lt-ltb, le-ltb}
use Rattle.std.proofs.lemmas.Nat.{div-mul-add, mod-mul-add}
use Rattle.std.proofs.lemmas.Nat.Bits.{bit_at_above, bit_at_or}
use Rattle.link_base.specs.Bits.{bit_of}
use Rattle.sample_bits.specs.Copied.{PutsBits}
use Rattle.sample_bits.specs.Filled.{IsFilled}
use Rattle.sample_bits.proofs.BitLemmas.{lt_from_bits, bit_at-mod, bit_at-mod_above, bit_at-shl, bit_at-shl_below, bit_at-shr}
use Rattle.sample_bits.proofs.OctetLemmas.{bit_of-rest}
use Rattle.sample_bits.proofs.PutLemmas.{PutsBits-word}

-- ---- the bits of a word behind those of another

abbrev pub followed_of : ℕ → ℕ → ℕ → ℕ
followed_of bits count word = bit_or bits (word * 2 ^ count % 2 ^ 64)

pub followed-first : (bits count word j : ℕ) → count < 64 → j < count → bit_at (followed_of bits count word) j ≡ bit_at bits j
followed-first bits count word j few h =
    let both = bit_at_or bits (word * 2 ^ count % 2 ^ 64) j in
    let none = bit_at-mod (word * 2 ^ count) 64 j (omega arith) ∙ bit_at-shl_below word count j h in
    omega arith

pub followed-next : (bits count word j : ℕ) → bits < 2 ^ count → count + j < 64 → bit_at (followed_of bits count word) (count + j) ≡ bit_at word j
followed-next bits count word j fits h =
    let both = bit_at_or bits (word * 2 ^ count % 2 ^ 64) (count + j) in
    let none = bit_at_above bits count (count + j) fits (omega arith) in
    let moved = bit_at-mod (word * 2 ^ count) 64 (count + j) h ∙ bit_at-shl word count (count + j) (omega arith) ∙ ap (bit_at word) (let e : count + j - count ≡ j = omega arith in e) in
    omega arith

pub followed-lt : (bits count word width : ℕ) → bits < 2 ^ count → word < 2 ^ width → followed_of bits count word < 2 ^ (count + width)
followed-lt bits count word width fits small =
    lt_from_bits (followed_of bits count word) (count + width)
    (λ i h.
    let both = bit_at_or bits (word * 2 ^ count % 2 ^ 64) i in
    let none = bit_at_above bits count i fits (omega arith) in
    ⊎_elim
    (λ within.
    let moved = bit_at-mod (word * 2 ^ count) 64 i within ∙ bit_at-shl word count i (omega arith) ∙ bit_at_above word width (i - count) small (omega arith) in
    omega arith)
    (λ above. let cut = bit_at-mod_above (word * 2 ^ count) 64 i above in omega arith)
    (cases_lt i 64))

pub shifted-lt : (word width c n : ℕ) → word < 2 ^ width → width ≤ c + n → word / 2 ^ c < 2 ^ n
shifted-lt word width c n small within =
    lt_from_bits (word / 2 ^ c) n (λ i h. bit_at-shr word c i ∙ bit_at_above word width (c + i) small (omega arith))

-- ---- bits in octets and in a word

-- other bits that are the same so far
pub IsFilled-same : (bits others : ℕ → ℕ) (octets : List ℕ) (octet word count at : ℕ) → 8 * octet + count ≡ at → ((k : ℕ) → k < at → bits k ≡ others k) → IsFilled bits octets octet word count → IsFilled others octets octet word count
IsFilled-same bits others octets octet word count at place same filled = record {
  written = λ k h. filled.written k h ∙ same k (omega arith);
  waiting = λ j h. filled.waiting j h ∙ same (8 * octet + j) (omega arith);
}

-- A word is put behind the one that is held.
module _ (bits : ℕ → ℕ) (octets : List ℕ) (octet held count next word width : ℕ) (filled : IsFilled bits octets octet held count)
    (first : (j : ℕ) → j < count → bit_at next j ≡ bit_at held j) (behind : (j : ℕ) → count + j < 64 → bit_at next (count + j) ≡ bit_at word j)
    (more : (j : ℕ) → j < width → bit_at word j ≡ bits (8 * octet + count + j)) where
  next-bit : (j : ℕ) → j < 64 → j < count + width → bit_at next j ≡ bits (8 * octet + j)
  next-bit j small h = ⊎_elim
      (λ early. first j early ∙ filled.waiting j early)
      (λ late.
      let e : count + (j - count) ≡ j = omega arith in
      let there : 8 * octet + count + (j - count) ≡ 8 * octet + j = omega arith in
      ap (bit_at next) (sym e) ∙ behind (j - count) (omega arith) ∙ more (j - count) (omega arith) ∙ ap bits there)
      (cases_lt j count)

pub IsFilled-longer : (bits : ℕ → ℕ) (octets : List ℕ) (octet held count next word width : ℕ) → IsFilled bits octets octet held count
    → ((j : ℕ) → j < count → bit_at next j ≡ bit_at held j) → ((j : ℕ) → count + j < 64 → bit_at next (count + j) ≡ bit_at word j)
    → ((j : ℕ) → j < width → bit_at word j ≡ bits (8 * octet + count + j))
    → count + width < 64 → IsFilled bits octets octet next (count + width)
IsFilled-longer bits octets octet held count next word width filled first behind more few = record {
  written = filled.written;
  waiting = λ j h. next-bit bits octets octet held count next word width filled first behind more j (omega arith) h;
}

pub IsFilled-stored : (bits : ℕ → ℕ) (old new : List ℕ) (octet held count next word width : ℕ) → IsFilled bits old octet held count
    → ((j : ℕ) → j < count → bit_at next j ≡ bit_at held j) → ((j : ℕ) → count + j < 64 → bit_at next (count + j) ≡ bit_at word j)
    → ((j : ℕ) → j < width → bit_at word j ≡ bits (8 * octet + count + j))
    → count < 64 → 64 ≤ count + width
    → ((j : ℕ) → j < 64 → bit_of new (8 * octet + j) ≡ bit_at next j) → ((k : ℕ) → k < 8 * octet → bit_of new k ≡ bit_of old k)
    → IsFilled bits new (octet + 8) (word / 2 ^ (64 - count)) (count + width - 64)
IsFilled-stored bits old new octet held count next word width filled first behind more few full stored before = record {
  written = λ k h. ⊎_elim
      (λ early. before k early ∙ filled.written k early)
      (λ late.
      let e : 8 * octet + (k - 8 * octet) ≡ k = omega arith in
      ap (bit_of new) (sym e) ∙ stored (k - 8 * octet) (omega arith)
      ∙ next-bit bits old octet held count next word width filled first behind more (k - 8 * octet) (omega arith) (omega arith) ∙ ap bits e)
      (cases_lt k (8 * octet));
  waiting = λ j h.
      let there : 8 * octet + count + (64 - count + j) ≡ 8 * (octet + 8) + j = omega arith in
      bit_at-shr word (64 - count) j ∙ more (64 - count + j) (omega arith) ∙ ap bits there;
}

-- The first n bits from octet o on were replaced.
pub PutsBits-front : (old new : List ℕ) (o n bits was word : ℕ) → n < 64 → length new ≡ length old → 8 * o + n ≤ 8 * length old
    → ((j : ℕ) → j < n → bit_at word (0 + j) ≡ bit_at bits j) → ((k : ℕ) → 0 + n ≤ k → bit_at word k ≡ bit_at was k)
    → ((j : ℕ) → j < 64 → bit_at was j ≡ bit_of (take (length old - o) (drop o old)) j)
    → ((j : ℕ) → j < 64 → 8 * o + j < 8 * length old → bit_of new (8 * o + j) ≡ bit_at word j)
    → ((k : ℕ) → k < 8 * o → bit_of new k ≡ bit_of old k) → ((k : ℕ) → 8 * o + 64 ≤ k → bit_of new k ≡ bit_of old k)
    → PutsBits bits old new (8 * o) n (8 * o + n)
PutsBits-front old new o n bits was word few same room put kept read written before after =
    PutsBits-word old new o 0 (8 * o) n (8 * o + n) bits word (omega arith) (omega arith) (omega arith) same (omega arith) room
    (λ j h. absurd (omega arith))
    put
    (λ j h beyond. kept j (omega arith) ∙ read j h ∙ bit_of-rest o old j)
    written before after

-- The bits that are left are put behind those that stand in the octets.
pub flushed : (bits : ℕ → ℕ) (old new : List ℕ) (octet word count : ℕ) → IsFilled bits old octet word count → PutsBits word old new (8 * octet) count (8 * octet + count) → (k : ℕ) → k < 8 * octet + count → bit_of new k ≡ bits k
flushed bits old new octet word count filled put k h = ⊎_elim
    (λ early. put.before k early ∙ filled.written k early)
    (λ late.
    let e : 8 * octet + (k - 8 * octet) ≡ k = omega arith in
    ap (bit_of new) (sym e) ∙ put.put (k - 8 * octet) (omega arith) ∙ filled.waiting (k - 8 * octet) (omega arith) ∙ ap bits e)
    (cases_lt k (8 * octet))

-- ---- the bits of samples behind the first bits of a list

-- bit k, where samples of w bits each begin with bit `at`
abbrev pub run_after : (at w : ℕ) → List ℕ → (ℕ → ℕ → ℕ) → ℕ → ℕ
run_after at w old bits k = cond (ltb k at) (bit_of old k) (bits ((k - at) / w) ((k - at) % w))

pub run_after-before : (at w : ℕ) (old : List ℕ) (bits : ℕ → ℕ → ℕ) (k : ℕ) → k < at → run_after at w old bits k ≡ bit_of old k
run_after-before at w old bits k h = ap (λ v. cond v (bit_of old k) (bits ((k - at) / w) ((k - at) % w))) (lt-ltb k at h)

pub run_after-at : (at w : ℕ) (old : List ℕ) (bits : ℕ → ℕ → ℕ) (r b k : ℕ) → b < w → k ≡ at + w * r + b → run_after at w old bits k ≡ bits r b
run_after-at at w old bits r b k small place =
    let turned : k - at ≡ r * w + b = omega arith in
    let sample : (k - at) / w ≡ r = ap (λ n. n / w) turned ∙ div-mul-add r w b small in
    let rest : (k - at) % w ≡ b = ap (λ n. n % w) turned ∙ mod-mul-add r w b small in
    ap (λ v. cond v (bit_of old k) (bits ((k - at) / w) ((k - at) % w))) (le-ltb k at (omega arith))
    ∙ ap (λ n. bits n ((k - at) % w)) sample ∙ ap (bits r) rest
