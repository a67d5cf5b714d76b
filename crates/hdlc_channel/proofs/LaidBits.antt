-- Bits laid out for the line.
use Rattle.std.proofs.Common.{◌≡◌, ℕ, suc, ◌+◌, ◌-◌, ◌*◌, ◌/◌, ◌%◌, ◌^◌, ◌<◌, ◌≤◌, ◌↔◌, Bool, List, [], ◌∷◌, ◌++◌, length, take, drop, get_or, bit_and, sym, ap, ◌∙◌, arith, inl, inr, append_assoc}
use Rattle.std.proofs.lemmas.Bool.{cases_lt}
use Rattle.std.proofs.Math.Nat.{mul-le-mul_right, pow-le-pow_right, mod-eq_of_lt}
use Rattle.std.proofs.lemmas.Nat.{pow-add, and_mask}
use Rattle.std.proofs.lemmas.List.{length-append, length-take-le, length-drop, drop_more, get_or-take, nil_from_length, append-nil}
use Rattle.hdlc_channel.specs.Bits.{low_bits, octet_bits, bits_of}
use Rattle.hdlc_channel.specs.SlowText.{flag}
use Rattle.hdlc_channel.specs.SlowStream.{stuffed}
use Rattle.hdlc_channel.specs.Outgoing.{later_bits, ones_after}
use Rattle.hdlc_channel.proofs.Contents.{low_bits-joined, low_bits-octet, length-low_bits}
use Rattle.hdlc_channel.proofs.StuffedBits.{stuffed-append}

-- ---- more bits

module _ (bits count more len : ℕ) (small : bits < 2 ^ count) (few : more < 2 ^ len) (room : count + len ≤ 25) where
  below : bits + more * 2 ^ count < 2 ^ (count + len)
  below =
      let product : suc more * 2 ^ count ≤ 2 ^ len * 2 ^ count = mul-le-mul_right (2 ^ count) few in
      let power : 2 ^ (count + len) ≡ 2 ^ count * 2 ^ len = pow-add 2 count len in
      omega (arith, product, power)

  most : 2 ^ (count + len) ≤ 2 ^ 25
  most = pow-le-pow_right {n = 2} (omega arith) {i = count + len} {j = 25} room

  shifted : more * 2 ^ count % 2 ^ 32 ≡ more * 2 ^ count
  shifted = mod-eq_of_lt (omega (arith, below, most))

  pub laid : low_bits (count + len) (bits + more * 2 ^ count % 2 ^ 32) ≡ low_bits count bits ++ low_bits len more
  laid = ap (λ n. low_bits (count + len) (bits + n)) shifted ∙ low_bits-joined count len bits more small

  pub laid_small : bits + more * 2 ^ count % 2 ^ 32 < 2 ^ (count + len)
  laid_small = omega (arith, below, shifted)

  pub laid_fits : bits + more * 2 ^ count % 2 ^ 32 < 2 ^ 25
  laid_fits = omega (arith, below, shifted, most)

-- ---- the first octet

pub first_octet : (bits count : ℕ) → 8 ≤ count → low_bits count bits ≡ octet_bits (bit_and bits 0xff) ++ low_bits (count - 8) (bits / 256)
first_octet bits count h =
    let e : count ≡ 8 + (count - 8) = omega arith in
    ap (λ n. low_bits n bits) e ∙ low_bits-octet (count - 8) bits ∙ ap (λ o. octet_bits o ++ low_bits (count - 8) (bits / 256)) (sym (and_mask bits 8))

pub rest_small : (bits count : ℕ) → 8 ≤ count → bits < 2 ^ count → bits / 256 < 2 ^ (count - 8)
rest_small bits count h small =
    let e : 2 ^ count ≡ 2 ^ 8 * 2 ^ (count - 8) = let s : count ≡ 8 + (count - 8) = omega arith in ap (λ n. 2 ^ n) s ∙ pow-add 2 8 (count - 8) in
    omega (arith, small, e)

-- ---- the octets that are left

pub later_bits-nil : (ones : ℕ) (octets : List ℕ) → octets ≡ [] → later_bits ones octets ≡ []
unfolding later_bits
later_bits-nil ones octets e = ap (later_bits ones) e

pub later_bits-length : (ones : ℕ) (octets : List ℕ) → 1 ≤ length octets → 8 ≤ length (later_bits ones octets)
unfolding later_bits
later_bits-length ones [] h = absurd (omega arith)
later_bits-length ones (x ∷ octets) h = let e = length-append (stuffed ones (bits_of (x ∷ octets))) flag in omega arith

pub later_bits-first : (ones x : ℕ) (octets : List ℕ) → 1 ≤ length octets → later_bits ones (x ∷ octets) ≡ stuffed ones (octet_bits x) ++ later_bits (ones_after ones (octet_bits x)) octets
unfolding later_bits
later_bits-first ones x [] h = absurd (omega arith)
later_bits-first ones x (y ∷ octets) h =
    ap (λ bs. bs ++ flag) (stuffed-append ones (octet_bits x) (bits_of (y ∷ octets)))
    ∙ append_assoc (stuffed ones (octet_bits x)) (stuffed (ones_after ones (octet_bits x)) (bits_of (y ∷ octets))) flag

pub later_bits-last : (ones x : ℕ) → later_bits ones (x ∷ []) ≡ stuffed ones (octet_bits x) ++ flag
unfolding later_bits
later_bits-last ones x = ap (λ bs. stuffed ones bs ++ flag) (append-nil (octet_bits x))

module _ (octets : List ℕ) (at end : ℕ) (within : end ≤ length octets) where
  left_length : length (drop at (take end octets)) ≡ end - at
  left_length = length-drop at (take end octets) ∙ ap (λ n. n - at) (length-take-le end octets within)

  pub none_left : at ≡ end → drop at (take end octets) ≡ []
  none_left same = nil_from_length (drop at (take end octets)) (let l = left_length in omega arith)

  pub some_left : at < end → 1 ≤ length (drop at (take end octets))
  some_left some = let l = left_length in omega arith

  pub first_left : at < end → drop at (take end octets) ≡ get_or octets at 0 ∷ drop (at + 1) (take end octets)
  first_left some =
      let l = length-take-le end octets within in
      drop_more (take end octets) at 0 (omega arith) ∙ ap (λ x. x ∷ drop (at + 1) (take end octets)) (get_or-take end octets at 0 some)

pub is_last_iff : (ones : ℕ) (octets : List ℕ) (at end : ℕ) → end ≤ length octets → at ≤ end → (at ≡ end) ↔ (later_bits ones (drop at (take end octets)) ≡ [])
is_last_iff ones octets at end within left = (
  (λ same. later_bits-nil ones (drop at (take end octets)) (none_left octets at end within same)),
  (λ none.
      elim (cases_lt at end) [
        | inl some ↦ let long = later_bits-length ones (drop at (take end octets)) (some_left octets at end within some) in let e = ap length none in absurd (omega (arith, long, e))
        | inr same ↦ omega arith
      ]),
)

pub room_inside : (len bits more : ℕ) (seen : List Bool) → low_bits len bits ≡ seen → length seen + more ≤ 25 → len + more ≤ 25
room_inside len bits more seen e room = let l = length-low_bits len bits in let f = ap length e in omega arith
