-- Bits of an octet list, where the list is a part of another, is written in part, or is a number's octets.
use Rattle.std.proofs.Common.{◌≡◌, ℕ, zero, suc, ◌+◌, ◌-◌, ◌*◌, ◌/◌, ◌%◌, ◌^◌, ◌<◌, ◌≤◌, List, [], ◌∷◌, ◌++◌, length, get_or, take, drop, sym, refl, ap, ◌∙◌, arith, ⊎_elim, w64, add-zero, zero-add, length-append, length-drop, length-take, bit_or}
use Rattle.std.specs.Int.{bit_at, byte_at, bytes_low_first, to_le_bytes, from_le_bytes}
use Rattle.std.proofs.lemmas.Bool.{cases_lt}
use Rattle.std.proofs.Math.Nat.{div-one, pow-suc}
use Rattle.std.proofs.lemmas.Nat.{pow-add, le_bytes_8}
use Rattle.std.proofs.lemmas.Nat.Bits.{bit_at-zero, bit_at_or, bit_at_above}
use Rattle.std.proofs.lemmas.List.{get_or-drop, get_or-take, get_or_past, get_or_append_left, get_or-append_right, get_or-replicate}
use Rattle.std.proofs.lemmas.Slice.{between_to_end}
use borrow.Rule.Slice.PartMut.{put_mid}
use Rattle.link_base.specs.Bits.{bit_of}
use Rattle.sample_bits.specs.Copied.{CopiesBits}
use Rattle.sample_bits.proofs.BitLemmas.{bit_at-mod, bit_at-shr, bit_at-shl, bit_at-shl_below}

-- a bit from its octet and its place there
pub bit_of-at : (l : List ℕ) (i r k : ℕ) → r < 8 → 8 * i + r ≡ k → bit_of l k ≡ bit_at (get_or l i 0) r
bit_of-at l i r k small e =
    let octet : k / 8 ≡ i = omega arith in
    let place : k % 8 ≡ r = omega arith in
    ap (λ n. bit_at (get_or l n 0) (k % 8)) octet ∙ ap (bit_at (get_or l i 0)) place

-- lists with the same octet have the same bits there
pub same_bit : (l m : List ℕ) (i j k n : ℕ) → get_or l i 0 ≡ get_or m j 0 → k / 8 ≡ i → n / 8 ≡ j → k % 8 ≡ n % 8 → bit_of l k ≡ bit_of m n
same_bit l m i j k n octet at_l at_m place =
    ap (λ v. bit_at (get_or l v 0) (k % 8)) at_l ∙ ap (λ v. bit_at v (k % 8)) octet
    ∙ ap (λ v. bit_at (get_or m v 0) (k % 8)) (sym at_m) ∙ ap (bit_at (get_or m (n / 8) 0)) place

pub bit_of-drop : (n : ℕ) (l : List ℕ) (j : ℕ) → bit_of (drop n l) j ≡ bit_of l (8 * n + j)
bit_of-drop n l j = same_bit (drop n l) l (j / 8) (n + j / 8) j (8 * n + j) (get_or-drop n l (j / 8) 0) refl (omega arith) (omega arith)

-- the rest of a list from octet n on, as the code takes it
pub bit_of-rest : (n : ℕ) (l : List ℕ) (j : ℕ) → bit_of (take (length l - n) (drop n l)) j ≡ bit_of l (8 * n + j)
bit_of-rest n l j = ap (λ v. bit_of v j) (between_to_end l n (length l) (omega arith)) ∙ bit_of-drop n l j

pub bit_of-past : (l : List ℕ) (k : ℕ) → 8 * length l ≤ k → bit_of l k ≡ 0
bit_of-past l k h = ap (λ v. bit_at v (k % 8)) (get_or_past l (k / 8) 0 (omega arith)) ∙ bit_at-zero (k % 8)

pub bit_of-take : (n : ℕ) (l : List ℕ) (k : ℕ) → k < 8 * n → bit_of (take n l) k ≡ bit_of l k
bit_of-take n l k h = ap (λ v. bit_at v (k % 8)) (get_or-take n l (k / 8) 0 (omega arith))

pub bit_of-append_left : (l m : List ℕ) (k : ℕ) → k < 8 * length l → bit_of (l ++ m) k ≡ bit_of l k
bit_of-append_left l m k h = ap (λ v. bit_at v (k % 8)) (get_or_append_left l m 0 (k / 8) (omega arith))

pub bit_of-append_right : (l m : List ℕ) (n k : ℕ) → length l ≡ n → 8 * n ≤ k → bit_of (l ++ m) k ≡ bit_of m (k - 8 * n)
bit_of-append_right l m n k same h =
    same_bit (l ++ m) m (k / 8) (k / 8 - n) k (k - 8 * n) (get_or-append_right l m n (k / 8) 0 same (omega arith)) refl (omega arith) (omega arith)

-- ---- a number's octets

pow-256 : (k : ℕ) → 256 ^ k ≡ 2 ^ (8 * k)
pow-256 zero = refl
pow-256 (suc k) =
    let e : 8 * k + 8 ≡ 8 * suc k = omega arith in
    pow-suc 256 k ∙ ap (λ x. x * 256) (pow-256 k) ∙ sym (pow-add 2 (8 * k) 8) ∙ ap (λ x. 2 ^ x) e

-- octet m of a number, by powers of 2
byte_at-is : (m n : ℕ) → byte_at m n ≡ n / 2 ^ (8 * m) % 2 ^ 8
byte_at-is zero n = ap (λ x. x % 256) (sym (div-one n))
byte_at-is (suc m) n = ap (λ x. n / x % 256) (pow-256 (suc m))

get_or-bytes : (i k n t : ℕ) → t < k → get_or (bytes_low_first i k n) t 0 ≡ byte_at (i + t) n
get_or-bytes i zero n t h = absurd (omega arith)
get_or-bytes i (suc k) n zero h = ap (λ m. byte_at m n) (sym (add-zero i))
get_or-bytes i (suc k) n (suc t) h =
    let e : suc i + t ≡ i + suc t = omega arith in
    get_or-bytes (suc i) k n t (omega arith) ∙ ap (λ m. byte_at m n) e

pub bit_of-to_le_bytes : (n j : ℕ) → j < 64 → bit_of (to_le_bytes w64 n) j ≡ bit_at n j
bit_of-to_le_bytes n j h =
    let t = j / 8 in
    let whole : 8 * t + j % 8 ≡ j = omega arith in
    ap (λ v. bit_at v (j % 8)) (get_or-bytes 0 8 n t (omega arith) ∙ ap (λ m. byte_at m n) (zero-add t) ∙ byte_at-is t n)
    ∙ bit_at-mod (n / 2 ^ (8 * t)) 8 (j % 8) (omega arith)
    ∙ bit_at-shr n (8 * t) (j % 8)
    ∙ ap (bit_at n) whole

pub bit_at-from_le_bytes : (l : List ℕ) (j : ℕ) → length l ≡ 8 → ((i : ℕ) → get_or l i 0 < 256) → j < 64 → bit_at (from_le_bytes w64 l) j ≡ bit_of l j
bit_at-from_le_bytes l j whole small h =
    let n = from_le_bytes w64 l in
    sym (bit_of-to_le_bytes n j h) ∙ ap (λ v. bit_of v j) (le_bytes_8 l n whole small refl)

-- ---- the first eight octets as a number

abbrev zeros : List ℕ
zeros = 0 ∷ 0 ∷ 0 ∷ 0 ∷ 0 ∷ 0 ∷ 0 ∷ 0 ∷ []

get_or-zeros : (i : ℕ) → get_or zeros i 0 ≡ 0
get_or-zeros i = ⊎_elim (λ h. get_or-replicate 8 i 0 0 h) (λ h. get_or_past zeros i 0 h) (cases_lt i 8)

take-small : (l : List ℕ) (n i : ℕ) → ((k : ℕ) → get_or l k 0 < 256) → get_or (take n l) i 0 < 256
take-small l n i small =
    ⊎_elim
    (λ h. omega (arith, get_or-take n l i 0 h, small i))
    (λ h. omega (arith, get_or_past (take n l) i 0 (omega (arith, length-take n l))))
    (cases_lt i n)

pub loaded-whole : (l : List ℕ) (j : ℕ) → 8 ≤ length l → ((i : ℕ) → get_or l i 0 < 256) → j < 64 → bit_at (from_le_bytes w64 (take 8 l)) j ≡ bit_of l j
loaded-whole l j long small h =
    bit_at-from_le_bytes (take 8 l) j (omega (arith, length-take 8 l)) (λ i. take-small l 8 i small) h ∙ bit_of-take 8 l j h

rest_zero : (l : List ℕ) (n i : ℕ) → get_or (drop n zeros) i 0 ≡ 0
rest_zero l n i = get_or-drop n zeros i 0 ∙ get_or-zeros (n + i)

filled-small : (l : List ℕ) (n i : ℕ) → ((k : ℕ) → get_or l k 0 < 256) → get_or (l ++ drop n zeros) i 0 < 256
filled-small l n i small =
    ⊎_elim
    (λ h. omega (arith, get_or_append_left l (drop n zeros) 0 i h, small i))
    (λ h. omega (arith, get_or-append_right l (drop n zeros) (length l) i 0 refl h, rest_zero l n (i - length l)))
    (cases_lt i (length l))

pub loaded-part : (l : List ℕ) (j : ℕ) → length l < 8 → ((i : ℕ) → get_or l i 0 < 256) → j < 64 → bit_at (from_le_bytes w64 (l ++ drop (length l) zeros)) j ≡ bit_of l j
loaded-part l j short small h =
    let n = length l in
    bit_at-from_le_bytes (l ++ drop n zeros) j (omega (arith, length-append l (drop n zeros), length-drop n zeros)) (λ i. filled-small l n i small) h
    ∙ ⊎_elim
    (bit_of-append_left l (drop n zeros) j)
    (λ past. bit_of-append_right l (drop n zeros) n j refl past
    ∙ ap (λ v. bit_at v ((j - 8 * n) % 8)) (rest_zero l n ((j - 8 * n) / 8)) ∙ bit_at-zero ((j - 8 * n) % 8)
    ∙ sym (bit_of-past l j past))
    (cases_lt j (8 * n))

-- ---- a list written in part

pub bit_of-put_mid : (a k : ℕ) (l new : List ℕ) (j : ℕ) → a ≤ length l → j < 8 * length new → bit_of (put_mid a k l new) (8 * a + j) ≡ bit_of new j
bit_of-put_mid a k l new j within h =
    let e : 8 * a + j - 8 * a ≡ j = omega arith in
    let rest = drop k (drop a l) in
    bit_of-append_right (take a l) (new ++ rest) a (8 * a + j) (omega (arith, length-take a l)) (omega arith)
    ∙ ap (bit_of (new ++ rest)) e ∙ bit_of-append_left new rest j h

-- ---- 64 bits that begin within an octet, from two reads

read-low : (low next b j : ℕ) → b ≤ 64 → j < 64 - b → bit_at (bit_or (low / 2 ^ b) (next * 2 ^ (64 - b) % 2 ^ 64)) j ≡ bit_at low (b + j)
read-low low next b j small h =
    let both = bit_at_or (low / 2 ^ b) (next * 2 ^ (64 - b) % 2 ^ 64) j in
    let none = bit_at-mod (next * 2 ^ (64 - b)) 64 j (omega arith) ∙ bit_at-shl_below next (64 - b) j h in
    let first = bit_at-shr low b j in
    omega arith

read-high : (low next b j : ℕ) → b ≤ 64 → low < 2 ^ 64 → 64 - b ≤ j → j < 64 → bit_at (bit_or (low / 2 ^ b) (next * 2 ^ (64 - b) % 2 ^ 64)) j ≡ bit_at next (j - (64 - b))
read-high low next b j small fits above h =
    let both = bit_at_or (low / 2 ^ b) (next * 2 ^ (64 - b) % 2 ^ 64) j in
    let second = bit_at-mod (next * 2 ^ (64 - b)) 64 j h ∙ bit_at-shl next (64 - b) j above in
    let none = bit_at-shr low b j ∙ bit_at_above low 64 (b + j) fits (omega arith) in
    omega arith

pub read-both : (l : List ℕ) (o b low next j : ℕ) → 0 < b → b < 8 → low < 2 ^ 64 → ((i : ℕ) → i < 64 → bit_at low i ≡ bit_of l (8 * o + i)) → next ≡ get_or l (o + 8) 0 → j < 64 → bit_at (bit_or (low / 2 ^ b) (next * 2 ^ (64 - b) % 2 ^ 64)) j ≡ bit_of l (8 * o + b + j)
read-both l o b low next j some small fits low_bits is h =
    ⊎_elim
    (λ first.
    let e : 8 * o + (b + j) ≡ 8 * o + b + j = omega arith in
    read-low low next b j (omega arith) first ∙ low_bits (b + j) (omega arith) ∙ ap (bit_of l) e)
    (λ second.
    let place : j - (64 - b) < 8 = omega arith in
    read-high low next b j (omega arith) fits second h ∙ ap (λ v. bit_at v (j - (64 - b))) is
    ∙ sym (bit_of-at l (o + 8) (j - (64 - b)) (8 * o + b + j) place (omega arith)))
    (cases_lt j (64 - b))

-- ---- copies in pieces

-- a piece, and the piece after it
pub CopiesBits-join : (src old mid new : List ℕ) (from at n m from_next at_next both : ℕ) → from_next ≡ from + n → at_next ≡ at + n → both ≡ n + m
    → CopiesBits src from old mid at n → CopiesBits src from_next mid new at_next m → CopiesBits src from old new at both
CopiesBits-join src old mid new from at n m from_next at_next both reads writes total first second = record {
  same_length = second.same_length ∙ first.same_length;
  copied = λ j h. ⊎_elim
      (λ early. second.before (at + j) (omega arith) ∙ first.copied j early)
      (λ late.
      let there : at + j ≡ at_next + (j - n) = omega arith in
      let here : from_next + (j - n) ≡ from + j = omega arith in
      ap (bit_of new) there ∙ second.copied (j - n) (omega arith) ∙ ap (bit_of src) here)
      (cases_lt j n);
  before = λ k h. second.before k (omega arith) ∙ first.before k h;
  after = λ k h. second.after k (omega arith) ∙ first.after k (omega arith);
}

-- the word at octet o was replaced whole
pub CopiesBits-word : (src old new : List ℕ) (from o b word : ℕ) → b ≡ 0 → length new ≡ length old → 8 * o + b + 64 ≤ 8 * length old
    → ((j : ℕ) → j < 64 → bit_at word j ≡ bit_of src (from + j))
    → ((j : ℕ) → j < 64 → 8 * o + j < 8 * length old → bit_of new (8 * o + j) ≡ bit_at word j)
    → ((k : ℕ) → k < 8 * o → bit_of new k ≡ bit_of old k) → ((k : ℕ) → 8 * o + 64 ≤ k → bit_of new k ≡ bit_of old k)
    → CopiesBits src from old new (8 * o + b) 64
CopiesBits-word src old new from o b word whole same room read written before after = record {
  same_length = same;
  copied = λ j h. let e : 8 * o + b + j ≡ 8 * o + j = omega arith in ap (bit_of new) e ∙ written j h (omega arith) ∙ read j h;
  before = λ k h. before k (omega arith);
  after = λ k h. after k (omega arith);
}

-- n bits from bit b of the word at octet o on were replaced
pub CopiesBits-part : (src old new : List ℕ) (from o b n bits was word : ℕ) → b + n < 64 → length new ≡ length old → 8 * o + b + n ≤ 8 * length old
    → ((j : ℕ) → j < n → bit_at bits j ≡ bit_of src (from + j))
    → ((j : ℕ) → j < 64 → bit_at was j ≡ bit_of old (8 * o + j))
    → ((j : ℕ) → j < n → bit_at word (b + j) ≡ bit_at bits j)
    → ((k : ℕ) → k < b → bit_at word k ≡ bit_at was k) → ((k : ℕ) → b + n ≤ k → bit_at word k ≡ bit_at was k)
    → ((j : ℕ) → j < 64 → 8 * o + j < 8 * length old → bit_of new (8 * o + j) ≡ bit_at word j)
    → ((k : ℕ) → k < 8 * o → bit_of new k ≡ bit_of old k) → ((k : ℕ) → 8 * o + 64 ≤ k → bit_of new k ≡ bit_of old k)
    → CopiesBits src from old new (8 * o + b) n
CopiesBits-part src old new from o b n bits was word small same room read kept put low high written before after = record {
  same_length = same;
  copied = λ j h.
      let e : 8 * o + b + j ≡ 8 * o + (b + j) = omega arith in
      ap (bit_of new) e ∙ written (b + j) (omega arith) (omega arith) ∙ put j h ∙ read j h;
  before = λ k h. ⊎_elim
      (before k)
      (λ within.
      let e : 8 * o + (k - 8 * o) ≡ k = omega arith in
      ap (bit_of new) (sym e) ∙ written (k - 8 * o) (omega arith) (omega arith) ∙ low (k - 8 * o) (omega arith) ∙ kept (k - 8 * o) (omega arith) ∙ ap (bit_of old) e)
      (cases_lt k (8 * o));
  after = λ k h. ⊎_elim
      (λ near. ⊎_elim
      (λ inside.
      let e : 8 * o + (k - 8 * o) ≡ k = omega arith in
      ap (bit_of new) (sym e) ∙ written (k - 8 * o) (omega arith) (omega arith) ∙ high (k - 8 * o) (omega arith) ∙ kept (k - 8 * o) (omega arith) ∙ ap (bit_of old) e)
      (λ past. bit_of-past new k (omega arith) ∙ sym (bit_of-past old k past))
      (cases_lt k (8 * length old)))
      (after k)
      (cases_lt k (8 * o + 64));
}
