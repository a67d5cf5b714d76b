-- Octets that are made of bits, and the bits of octets that are symbols without a gap.
use Rattle.std.proofs.Common.{◌≡◌, ℕ, suc, ◌+◌, ◌-◌, ◌*◌, ◌/◌, ◌%◌, ◌^◌, ◌<◌, ◌==◌, Bool, List, [], ◌∷◌, ◌++◌, length, get_or, All, flat_map, eqb, refl, sym, ap, ◌∙◌, arith, inl, inr, append_assoc, append-nil, length-append}
use Rattle.std.proofs.lemmas.Bool.{cases_lt}
use Rattle.std.proofs.lemmas.List.{get_or-append_right, get_or_append_left, same_lists}
use Rattle.std.proofs.lemmas.Grind.{flat_map-append}
use Rattle.std.proofs.lemmas.List.Elements.{All-head, All-tail}
use Rattle.link_base.specs.Bits.{bit_of}
use Rattle.hdlc_channel.specs.Bits.{bits_of, low_bits, octet_bits, octets_of}
use Rattle.hdlc_channel.proofs.Contents.{length-bits_of, length-low_bits, low_bits-joined, octets_of-bits_of}
use Rattle.hdlc_channel.proofs.ContentReads.{get_or-low_bits}
use Rattle.line_code.specs.Packed.{four_symbols, symbols_in, word_of}

-- ---- bit by bit

get_or-bits_of : (octets : List ℕ) (i : ℕ) (d : Bool) → i < 8 * length octets → get_or (bits_of octets) i d ≡ eqb (bit_of octets i) 1
get_or-bits_of [] i d h = absurd (omega arith)
get_or-bits_of (x ∷ octets) i d h =
    let eight = length-low_bits 8 x in
    elim (cases_lt i 8) [
      | inl low ↦
          let place : i / 8 ≡ 0 = omega arith in
          let rest : i % 8 ≡ i = omega arith in
          get_or_append_left (octet_bits x) (bits_of octets) d i (omega arith) ∙ get_or-low_bits 8 x i d low
          ∙ sym (ap (λ q. get_or (x ∷ octets) q 0 / 2 ^ (i % 8) % 2 == 1) place ∙ ap (λ r. x / 2 ^ r % 2 == 1) rest)
      | inr high ↦
          let place : i / 8 ≡ suc ((i - 8) / 8) = omega arith in
          let rest : i % 8 ≡ (i - 8) % 8 = omega arith in
          get_or-append_right (octet_bits x) (bits_of octets) 8 i d eight high ∙ get_or-bits_of octets (i - 8) d (omega arith)
          ∙ sym (ap (λ q. get_or (x ∷ octets) q 0 / 2 ^ (i % 8) % 2 == 1) place ∙ ap (λ r. get_or octets ((i - 8) / 8) 0 / 2 ^ r % 2 == 1) rest)
    ]

-- octets are those of the bits that they have
pub octets_of-their_bits : (octets : List ℕ) (bits : List Bool) → All (λ octet. octet < 256) octets → length bits ≡ 8 * length octets
    → ((i : ℕ) (d : Bool) → i < length bits → eqb (bit_of octets i) 1 ≡ get_or bits i d) → octets ≡ octets_of bits
octets_of-their_bits octets bits small long same =
    let length_is = length-bits_of octets in
    sym (octets_of-bits_of octets small)
    ∙ ap octets_of (same_lists (bits_of octets) bits (length_is ∙ sym long) (λ i d lt. get_or-bits_of octets i d (omega (arith, lt, length_is)) ∙ same i d (omega (arith, lt, length_is, long))))

pub length-octets_of : (bits : List Bool) → length (octets_of bits) ≡ length bits / 8
unfolding octets_of
length-octets_of (a ∷ b ∷ c ∷ d ∷ e ∷ f ∷ g ∷ h ∷ bits) = omega (arith, length-octets_of bits)
length-octets_of (a ∷ b ∷ c ∷ d ∷ e ∷ f ∷ g ∷ []) = refl
length-octets_of (a ∷ b ∷ c ∷ d ∷ e ∷ f ∷ []) = refl
length-octets_of (a ∷ b ∷ c ∷ d ∷ e ∷ []) = refl
length-octets_of (a ∷ b ∷ c ∷ d ∷ []) = refl
length-octets_of (a ∷ b ∷ c ∷ []) = refl
length-octets_of (a ∷ b ∷ []) = refl
length-octets_of (a ∷ []) = refl
length-octets_of [] = refl

-- ---- symbols in octets

-- five octets have the bits of forty
word_octets : (a b c d e : ℕ) → a < 256 → b < 256 → c < 256 → d < 256
    → low_bits 40 (word_of a b c d e) ≡ octet_bits a ++ (octet_bits b ++ (octet_bits c ++ (octet_bits d ++ octet_bits e)))
word_octets a b c d e ha hb hc hd =
    let de : ℕ = d + 256 * e in
    let cde : ℕ = c + 256 * de in
    let bcde : ℕ = b + 256 * cde in
    let first : word_of a b c d e ≡ a + bcde * 2 ^ 8 = omega arith in
    let second : bcde ≡ b + cde * 2 ^ 8 = omega arith in
    let third : cde ≡ c + de * 2 ^ 8 = omega arith in
    let fourth : de ≡ d + e * 2 ^ 8 = omega arith in
    ap (low_bits 40) first ∙ low_bits-joined 8 32 a bcde ha
    ∙ ap (λ n. octet_bits a ++ low_bits 32 n) second ∙ ap (λ xs. octet_bits a ++ xs) (low_bits-joined 8 24 b cde hb)
    ∙ ap (λ n. octet_bits a ++ (octet_bits b ++ low_bits 24 n)) third ∙ ap (λ xs. octet_bits a ++ (octet_bits b ++ xs)) (low_bits-joined 8 16 c de hc)
    ∙ ap (λ n. octet_bits a ++ (octet_bits b ++ (octet_bits c ++ low_bits 16 n))) fourth
    ∙ ap (λ xs. octet_bits a ++ (octet_bits b ++ (octet_bits c ++ xs))) (low_bits-joined 8 8 d e hd)

-- and so have four symbols
word_symbols : (word : ℕ) → word < 1099511627776 → low_bits 40 word ≡ flat_map (low_bits 10) (four_symbols word)
word_symbols word small =
    let p = word % 1024 in
    let q = word / 1024 % 1024 in
    let r = word / 1048576 % 1024 in
    let s = word / 1073741824 % 1024 in
    let first : word ≡ p + (word / 1024) * 2 ^ 10 = omega arith in
    let second : word / 1024 ≡ q + (word / 1048576) * 2 ^ 10 = omega arith in
    let third : word / 1048576 ≡ r + (word / 1073741824) * 2 ^ 10 = omega arith in
    let last : word / 1073741824 ≡ s = omega arith in
    ap (low_bits 40) first ∙ low_bits-joined 10 30 p (word / 1024) (omega arith)
    ∙ ap (λ n. low_bits 10 p ++ low_bits 30 n) second ∙ ap (λ xs. low_bits 10 p ++ xs) (low_bits-joined 10 20 q (word / 1048576) (omega arith))
    ∙ ap (λ n. low_bits 10 p ++ (low_bits 10 q ++ low_bits 20 n)) third ∙ ap (λ xs. low_bits 10 p ++ (low_bits 10 q ++ xs)) (low_bits-joined 10 10 r (word / 1073741824) (omega arith))
    ∙ ap (λ n. low_bits 10 p ++ (low_bits 10 q ++ (low_bits 10 r ++ low_bits 10 n))) last
    ∙ ap (λ xs. low_bits 10 p ++ (low_bits 10 q ++ (low_bits 10 r ++ xs))) (sym (append-nil (low_bits 10 s)))

word_small : (a b c d e : ℕ) → a < 256 → b < 256 → c < 256 → d < 256 → e < 256 → word_of a b c d e < 1099511627776
word_small a b c d e ha hb hc hd he = omega arith

-- five lists, one after another
five_assoc : (a b c d e rest : List Bool) → (a ++ (b ++ (c ++ (d ++ e)))) ++ rest ≡ a ++ (b ++ (c ++ (d ++ (e ++ rest))))
five_assoc a b c d e rest =
    append_assoc a (b ++ (c ++ (d ++ e))) rest ∙ ap (λ xs. a ++ xs) (append_assoc b (c ++ (d ++ e)) rest) ∙ ap (λ xs. a ++ (b ++ xs)) (append_assoc c (d ++ e) rest)
    ∙ ap (λ xs. a ++ (b ++ (c ++ xs))) (append_assoc d e rest)

-- the bits of the symbols in whole groups of five octets are those of the octets
bits_of-symbols : (octets : List ℕ) → All (λ octet. octet < 256) octets → length octets % 5 ≡ 0 → flat_map (low_bits 10) (symbols_in octets) ≡ bits_of octets
unfolding symbols_in
bits_of-symbols (a ∷ b ∷ c ∷ d ∷ e ∷ octets) small whole =
    let P : ℕ → Type 0 = λ octet. octet < 256 in
    let after_a = All-tail P a (b ∷ c ∷ d ∷ e ∷ octets) small in
    let after_b = All-tail P b (c ∷ d ∷ e ∷ octets) after_a in
    let after_c = All-tail P c (d ∷ e ∷ octets) after_b in
    let after_d = All-tail P d (e ∷ octets) after_c in
    let after_e = All-tail P e octets after_d in
    let ha = All-head P a (b ∷ c ∷ d ∷ e ∷ octets) small in
    let hb = All-head P b (c ∷ d ∷ e ∷ octets) after_a in
    let hc = All-head P c (d ∷ e ∷ octets) after_b in
    let hd = All-head P d (e ∷ octets) after_c in
    let he = All-head P e octets after_d in
    let word : ℕ = word_of a b c d e in
    let rest = flat_map (low_bits 10) (symbols_in octets) in
    flat_map-append (low_bits 10) (four_symbols word) (symbols_in octets)
    ∙ ap (λ xs. xs ++ rest) (sym (word_symbols word (word_small a b c d e ha hb hc hd he)) ∙ word_octets a b c d e ha hb hc hd)
    ∙ ap (λ xs. (octet_bits a ++ (octet_bits b ++ (octet_bits c ++ (octet_bits d ++ octet_bits e)))) ++ xs) (bits_of-symbols octets after_e (omega arith))
    ∙ five_assoc (octet_bits a) (octet_bits b) (octet_bits c) (octet_bits d) (octet_bits e) (bits_of octets)
bits_of-symbols (a ∷ b ∷ c ∷ d ∷ []) small whole = absurd (omega arith)
bits_of-symbols (a ∷ b ∷ c ∷ []) small whole = absurd (omega arith)
bits_of-symbols (a ∷ b ∷ []) small whole = absurd (omega arith)
bits_of-symbols (a ∷ []) small whole = absurd (omega arith)
bits_of-symbols [] small whole = refl

-- octets are those of the symbols that they have
pub octets_of-their_symbols : (octets : List ℕ) → All (λ octet. octet < 256) octets → length octets % 5 ≡ 0 → octets ≡ octets_of (flat_map (low_bits 10) (symbols_in octets))
octets_of-their_symbols octets small whole = sym (ap octets_of (bits_of-symbols octets small whole) ∙ octets_of-bits_of octets small)

pub length-symbol_bits : (symbols : List ℕ) → length (flat_map (low_bits 10) symbols) ≡ 10 * length symbols
length-symbol_bits [] = refl
length-symbol_bits (x ∷ symbols) = omega (arith, length-append (low_bits 10 x) (flat_map (low_bits 10) symbols), length-low_bits 10 x, length-symbol_bits symbols)
