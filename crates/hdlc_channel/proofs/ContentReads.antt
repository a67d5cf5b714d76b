-- What is read of the bits that were collected.
use Rattle.std.proofs.Common.{◌≡◌, ℕ, zero, suc, ◌+◌, ◌-◌, ◌*◌, ◌/◌, ◌%◌, ◌^◌, ◌<◌, ◌≤◌, ◌==◌, Bool, true, false, List, [], ◌∷◌, length, take, get_or, bit_and, refl, sym, ap, ◌∙◌, arith, inl, inr}
use Rattle.std.proofs.lemmas.Bool.{cond-true, cond-false, cases_lt}
use Rattle.std.proofs.lemmas.List.{length-append, length-take-le, take-take, get_or_append_left, get_or-append_right, get_or-take}
use Rattle.std.proofs.lemmas.List.Elements.{All-take}
use Rattle.std.proofs.lemmas.Nat.{and_mask, shr-shr}
use Rattle.hdlc_channel.specs.Bits.{low_bits, octet_bits, bits_of, octets_of}
use Rattle.hdlc_channel.specs.Content.{content_bits, IsContent, IsBuffer}
use Rattle.hdlc_channel.specs.Reader.{before_flag, without_zero}
use Rattle.hdlc_channel.proofs.Contents.{length-low_bits, length-bits_of, take-bits_of, octets_of-bits_of}

pub content-nil : (octets : List ℕ) → content_bits octets 0 0 ≡ []
unfolding content_bits low_bits
content-nil octets = refl

pub empty_content : (octets : List ℕ) → IsBuffer octets → IsContent octets 0 0
empty_content octets h = record { room = h; within = omega arith; small = omega arith }

pub whole-length : (octets : List ℕ) (len last : ℕ) → IsContent octets len last → length (take (len / 8) octets) ≡ len / 8
whole-length octets len last c =
    let room : length octets ≡ 1502 = c.room.len in
    let within : len ≤ 12023 = c.within in
    length-take-le (len / 8) octets (omega arith)

pub length-content : (octets : List ℕ) (len last : ℕ) → IsContent octets len last → length (content_bits octets len last) ≡ len
unfolding content_bits
length-content octets len last c =
    let sum = length-append (bits_of (take (len / 8) octets)) (low_bits (len % 8) last) in
    let front = length-bits_of (take (len / 8) octets) in
    let whole = whole-length octets len last c in
    let rest = length-low_bits (len % 8) last in
    omega arith

pub octets_of-content : (octets : List ℕ) (len last k : ℕ) → IsContent octets len last → 8 * k ≤ len
    → octets_of (take (8 * k) (content_bits octets len last)) ≡ take k octets
unfolding content_bits
octets_of-content octets len last k c h =
    let whole = whole-length octets len last c in
    let inside : k ≤ length (take (len / 8) octets) = omega arith in
    ap octets_of (take-bits_of k (take (len / 8) octets) (low_bits (len % 8) last) inside ∙ ap bits_of (take-take k (len / 8) octets (omega arith)))
    ∙ octets_of-bits_of (take k octets) (All-take (λ x. x < 256) k octets c.room.small)

-- ---- one bit

pub get_or-low_bits : (k n i : ℕ) (d : Bool) → i < k → get_or (low_bits k n) i d ≡ (n / 2 ^ i % 2 == 1)
unfolding low_bits
get_or-low_bits zero n i d h = absurd (omega arith)
get_or-low_bits (suc k) n zero d h = let e : n / 1 ≡ n = omega arith in ap (λ x. x % 2 == 1) (sym e)
get_or-low_bits (suc k) n (suc i) d h =
    let e : n / 2 / 2 ^ i ≡ n / 2 ^ suc i = shr-shr n 1 i ∙ ap (λ p. n / 2 ^ p) (omega arith) in
    get_or-low_bits k (n / 2) i d (omega arith) ∙ ap (λ x. x % 2 == 1) e

get_or-bits_of : (octets : List ℕ) (i : ℕ) (d : Bool) → i < 8 * length octets → get_or (bits_of octets) i d ≡ (get_or octets (i / 8) 0 / 2 ^ (i % 8) % 2 == 1)
get_or-bits_of [] i d h = absurd (omega arith)
get_or-bits_of (x ∷ octets) i d h =
    let eight = length-low_bits 8 x in
    elim (cases_lt i 8) [
      | inl low ↦
          let place : i / 8 ≡ 0 = omega arith in
          let rest : i % 8 ≡ i = omega arith in
          get_or_append_left (octet_bits x) (bits_of octets) d i (omega arith) ∙ get_or-low_bits 8 x i d low
          ∙ sym (ap (λ q. get_or (x ∷ octets) q 0 / 2 ^ (i % 8) % 2 == 1) place ∙ ap (λ r. x / 2 ^ r % 2 == 1) rest)
      | inr high ↦
          let place : i / 8 ≡ suc ((i - 8) / 8) = omega arith in
          let rest : i % 8 ≡ (i - 8) % 8 = omega arith in
          get_or-append_right (octet_bits x) (bits_of octets) 8 i d eight high ∙ get_or-bits_of octets (i - 8) d (omega arith)
          ∙ sym (ap (λ q. get_or (x ∷ octets) q 0 / 2 ^ (i % 8) % 2 == 1) place ∙ ap (λ r. get_or octets ((i - 8) / 8) 0 / 2 ^ r % 2 == 1) rest)
    ]

module _ (octets : List ℕ) (len last place : ℕ) (c : IsContent octets len last) where
  pub bit_in_octets : place / 8 < len / 8 → (bit_and (get_or octets (place / 8) 0 / 2 ^ (place % 8)) 1 == 1) ≡ get_or (content_bits octets len last) place true
  unfolding content_bits
  bit_in_octets h =
      let whole = whole-length octets len last c in
      let front = length-bits_of (take (len / 8) octets) in
      ap (λ x. x == 1) (and_mask (get_or octets (place / 8) 0 / 2 ^ (place % 8)) 1)
      ∙ sym (get_or_append_left (bits_of (take (len / 8) octets)) (low_bits (len % 8) last) true place (omega arith)
      ∙ get_or-bits_of (take (len / 8) octets) place true (omega arith)
      ∙ ap (λ o. o / 2 ^ (place % 8) % 2 == 1) (get_or-take (len / 8) octets (place / 8) 0 h))

  pub bit_in_last : place < len → len / 8 ≤ place / 8 → (bit_and (last / 2 ^ (place % 8)) 1 == 1) ≡ get_or (content_bits octets len last) place true
  unfolding content_bits
  bit_in_last within h =
      let whole = whole-length octets len last c in
      let front = length-bits_of (take (len / 8) octets) in
      let rest : place - 8 * (len / 8) ≡ place % 8 = omega arith in
      ap (λ x. x == 1) (and_mask (last / 2 ^ (place % 8)) 1)
      ∙ sym (get_or-append_right (bits_of (take (len / 8) octets)) (low_bits (len % 8) last) (8 * (len / 8)) place true (omega arith) (omega arith)
      ∙ ap (λ i. get_or (low_bits (len % 8) last) i true) rest ∙ get_or-low_bits (len % 8) last (place % 8) true (omega arith))

-- ---- before a flag

module _ (bits : List Bool) where
  front_length : length (take (length bits - 6) bits) ≡ length bits - 6
  front_length = length-take-le (length bits - 6) bits (omega arith)

  front_last : 0 < length bits - 6 → get_or (take (length bits - 6) bits) (length (take (length bits - 6) bits) - 1) true ≡ get_or bits (length bits - 6 - 1) true
  front_last some =
      ap (λ n. get_or (take (length bits - 6) bits) (n - 1) true) front_length
      ∙ get_or-take (length bits - 6) bits (length bits - 6 - 1) true (omega arith)

  pub cut_at_zero : 0 < length bits - 6 → get_or bits (length bits - 6 - 1) true ≡ false → take (length bits - 6 - 1) bits ≡ before_flag bits
  unfolding before_flag without_zero
  cut_at_zero some off =
      sym (cond-false (get_or (take (length bits - 6) bits) (length (take (length bits - 6) bits) - 1) true) _ _ (front_last some ∙ off)
      ∙ ap (λ n. take (n - 1) (take (length bits - 6) bits)) front_length ∙ take-take (length bits - 6 - 1) (length bits - 6) bits (omega arith))

  pub cut_at_one : 0 < length bits - 6 → get_or bits (length bits - 6 - 1) true ≡ true → take (length bits - 6) bits ≡ before_flag bits
  unfolding before_flag without_zero
  cut_at_one some on = sym (cond-true (get_or (take (length bits - 6) bits) (length (take (length bits - 6) bits) - 1) true) _ _ (front_last some ∙ on))

  pub cut_at_none : length bits - 6 ≤ 0 → take (length bits - 6) bits ≡ before_flag bits
  unfolding before_flag without_zero
  cut_at_none none =
      let nothing : take (length bits - 6) bits ≡ [] = let e : length bits - 6 ≡ 0 = omega arith in ap (λ n. take n bits) e in
      rw nothing refl

-- room for so many bits more
pub room_left : (octets : List ℕ) (len last count : ℕ) (bits : List Bool) → IsContent octets len last → content_bits octets len last ≡ bits → length bits + count ≤ 12023 → len + count ≤ 12023
room_left octets len last count bits c e room =
    let l = length-content octets len last c in
    let f = ap length e in
    omega arith
