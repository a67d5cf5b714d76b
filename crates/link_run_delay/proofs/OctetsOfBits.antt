-- Octets that have given bits.
use Rattle.std.proofs.Common.{◌≡◌, ℕ, zero, suc, ◌+◌, ◌-◌, ◌*◌, ◌/◌, ◌%◌, ◌^◌, ◌<◌, ◌≤◌, List, ◌++◌, map, length, take, get_or, All, sym, ap, ◌∙◌, arith, length-append}
use Rattle.std.specs.Int.{bit_at}
use Rattle.std.specs.List.{range_with_len}
use Rattle.std.proofs.Math.Nat.{pow-suc}
use Rattle.std.proofs.Math.Seq.{take-append_seam}
use Rattle.std.proofs.lemmas.List.{get_or-append_right}
use Rattle.std.proofs.lemmas.List.Elements.{All-append, All-map}
use Rattle.std.proofs.lemmas.List.FromFn.{get_or-map-range_with_len, length-map-range_with_len}
use Rattle.std.proofs.lemmas.Nat.Bits.{bit_at_lowest, bit_at-suc}
use Rattle.link_base.specs.Bits.{bit_of}

-- ---- a number with given bits

-- each bit is 0 or 1
abbrev pub AreBits : (ℕ → ℕ) → Type 0
AreBits bits = (x : ℕ) → bits x ≤ 1

-- the number has n bits, and they are these
record HasBits (n : ℕ) (bits : ℕ → ℕ) (number : ℕ) : Type 0 where
  small : number < 2 ^ n
  same : (j : ℕ) → j < n → bit_at number j ≡ bits j

-- a lowest bit before the others
bits_more : (n number : ℕ) (bits : ℕ → ℕ) → AreBits bits → ((j : ℕ) → j < n → bit_at number j ≡ bits (j + 1))
    → (j : ℕ) → j < suc n → bit_at (bits 0 + 2 * number) j ≡ bits j
bits_more n number bits small rest zero lt =
    let first = small 0 in
    bit_at_lowest (bits 0 + 2 * number) ∙ omega arith
bits_more n number bits small rest (suc j) lt =
    let first = small 0 in
    let half : (bits 0 + 2 * number) / 2 ≡ number = omega arith in
    let place : j + 1 ≡ suc j = omega arith in
    bit_at-suc (bits 0 + 2 * number) j ∙ ap (λ k. bit_at k j) half ∙ rest j (omega arith) ∙ ap bits place

number_with : (n : ℕ) (bits : ℕ → ℕ) → AreBits bits → (number : ℕ) × HasBits n bits number
number_with zero bits small = (0, record { small = omega arith; same = λ j lt. absurd (omega arith) })
number_with (suc n) bits small =
    let rest = number_with n (λ j. bits (j + 1)) (λ j. small (j + 1)) in
    let first = small 0 in
    let low = rest.1.small in (
      bits 0 + 2 * rest.0,
      record { small = omega (arith, pow-suc 2 n); same = bits_more n rest.0 bits small rest.1.same },
    )

-- ---- octets with given bits behind given octets

-- the octets are these y, and m more with these bits
pub record HasBitsBehind (y m : ℕ) (first : List ℕ) (bits : ℕ → ℕ) (octets : List ℕ) : Type 0 where
  pub size : length octets ≡ y + m
  pub small : All (λ octet. octet < 256) octets
  pub front : take y octets ≡ first
  pub same : (x : ℕ) → x < 8 * m → bit_of octets (8 * y + x) ≡ bits x

module _ (y m : ℕ) (first : List ℕ) (bits : ℕ → ℕ) (size : length first ≡ y) (are_octets : All (λ octet. octet < 256) first) (are_bits : AreBits bits) where
  octet_with : (i : ℕ) → (number : ℕ) × HasBits 8 (λ j. bits (8 * i + j)) number
  octet_with i = number_with 8 (λ j. bits (8 * i + j)) (λ j. are_bits (8 * i + j))

  abbrev octet : ℕ → ℕ
  octet i = (octet_with i).0

  abbrev rest : List ℕ
  rest = map octet (range_with_len 0 m)

  octet_at : (i : ℕ) → i < m → get_or (first ++ rest) (y + i) 0 ≡ octet i
  octet_at i lt =
      get_or-append_right first rest y (y + i) 0 size (omega arith)
      ∙ get_or-map-range_with_len octet 0 m (y + i - y) i 0 (omega arith) (omega arith)

  bit_is : (x : ℕ) → x < 8 * m → bit_of (first ++ rest) (8 * y + x) ≡ bits x
  bit_is x lt =
      let place : (8 * y + x) / 8 ≡ y + x / 8 = omega arith in
      let low : (8 * y + x) % 8 ≡ x % 8 = omega arith in
      let whole : 8 * (x / 8) + x % 8 ≡ x = omega arith in
      ap (λ k. bit_at (get_or (first ++ rest) k 0) ((8 * y + x) % 8)) place
      ∙ ap (λ k. bit_at (get_or (first ++ rest) (y + x / 8) 0) k) low
      ∙ ap (λ k. bit_at k (x % 8)) (octet_at (x / 8) (omega arith))
      ∙ (octet_with (x / 8)).1.same (x % 8) (omega arith)
      ∙ ap bits whole

  pub octets_with : (octets : List ℕ) × HasBitsBehind y m first bits octets
  octets_with = (
    first ++ rest,
    record {
      size = omega (arith, length-append first rest, length-map-range_with_len octet 0 m);
      small = All-append (λ k. k < 256) first rest are_octets (All-map (λ k. k < 256) octet (range_with_len 0 m) (λ k d lt. (octet_with (get_or (range_with_len 0 m) k d)).1.small));
      front = ap (λ k. take k (first ++ rest)) (sym size) ∙ take-append_seam first rest;
      same = bit_is;
    },
  )
