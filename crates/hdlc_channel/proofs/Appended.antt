-- A few more bits are collected.
use Rattle.std.proofs.Common.{◌≡◌, ℕ, suc, ◌+◌, ◌-◌, ◌*◌, ◌/◌, ◌%◌, ◌^◌, ◌<◌, ◌≤◌, List, [], ◌∷◌, ◌++◌, length, take, set, bit_and, sym, ap, ◌∙◌, subst, arith, append_assoc}
use Rattle.std.proofs.Math.Nat.{mul-le-mul_right}
use Rattle.std.proofs.lemmas.List.{take_more_set, append-nil, length-set}
use Rattle.std.proofs.lemmas.List.Elements.{All-set}
use Rattle.std.proofs.lemmas.List.Concat.{flat_map-append}
use Rattle.std.proofs.lemmas.Nat.{pow-add, and_mask}
use Rattle.std.proofs.Math.Nat.{pow-le-pow_right, mod-eq_of_lt}
use Rattle.hdlc_channel.specs.Bits.{low_bits, octet_bits, bits_of}
use Rattle.hdlc_channel.specs.Content.{content_bits, IsContent}
use Rattle.hdlc_channel.proofs.Contents.{low_bits-joined, low_bits-octet}

-- the bits after the last whole octet, with `count` more, as the code puts them together
abbrev pub last_of : ℕ → ℕ → ℕ → ℕ
last_of last bits had = last + bits * 2 ^ had % 2 ^ 32

module _ (octets : List ℕ) (len last bits count : ℕ) (old : IsContent octets len last) (few : count ≤ 8) (small : bits < 2 ^ count) (room : len + count ≤ 12023) where
  abbrev had : ℕ
  had = len % 8

  below : last + bits * 2 ^ had < 2 ^ (had + count)
  below =
      let small_last : last < 2 ^ had = old.small in
      let product : suc bits * 2 ^ had ≤ 2 ^ count * 2 ^ had = mul-le-mul_right (2 ^ had) small in
      let power : 2 ^ (had + count) ≡ 2 ^ had * 2 ^ count = pow-add 2 had count in
      omega (arith, product, power)

  fits : bits * 2 ^ had % 2 ^ 32 ≡ bits * 2 ^ had
  fits =
      let most : 2 ^ (had + count) ≤ 2 ^ 15 = pow-le-pow_right {n = 2} (omega arith) {i = had + count} {j = 15} (omega arith) in
      mod-eq_of_lt (omega (arith, below, most))

  whole : last_of last bits had ≡ last + bits * 2 ^ had
  whole = ap (λ x. last + x) fits

  -- where they make up no whole octet
  pub short_bits : had + count < 8 → content_bits octets (len + count) (last_of last bits had) ≡ content_bits octets len last ++ low_bits count bits
  unfolding content_bits
  short_bits h =
      let same : (len + count) / 8 ≡ len / 8 = omega arith in
      let rest : (len + count) % 8 ≡ had + count = omega arith in
      ap (λ q. bits_of (take q octets) ++ low_bits ((len + count) % 8) (last_of last bits had)) same
      ∙ ap (λ r. bits_of (take (len / 8) octets) ++ low_bits r (last_of last bits had)) rest
      ∙ ap (λ a. bits_of (take (len / 8) octets) ++ low_bits (had + count) a) whole
      ∙ ap (λ xs. bits_of (take (len / 8) octets) ++ xs) (low_bits-joined had count last bits old.small)
      ∙ sym (append_assoc (bits_of (take (len / 8) octets)) (low_bits had last) (low_bits count bits))

  pub short_content : had + count < 8 → IsContent octets (len + count) (last_of last bits had)
  short_content h =
      let rest : (len + count) % 8 ≡ had + count = omega arith in
      record {
        room = old.room;
        within = room;
        small = subst (λ r. last_of last bits had < 2 ^ r) (sym rest) (omega (arith, below, whole));
      }

  -- where they make up one
  module _ (h : 8 ≤ had + count) where
    abbrev rest : ℕ
    rest = had + count - 8

    next_octet : (len + count) / 8 ≡ len / 8 + 1
    next_octet = omega arith

    next_rest : (len + count) % 8 ≡ rest
    next_rest = omega arith

    pub place_in : len / 8 < length octets
    place_in = let e : length octets ≡ 1502 = old.room.len in omega arith

    full_bits : low_bits (had + count) (last_of last bits had) ≡ low_bits had last ++ low_bits count bits
    full_bits = ap (low_bits (had + count)) whole ∙ low_bits-joined had count last bits old.small

    split_bits : low_bits (had + count) (last_of last bits had) ≡ octet_bits (last_of last bits had % 256) ++ low_bits rest (last_of last bits had / 256)
    split_bits = let e : had + count ≡ 8 + rest = omega arith in ap (λ n. low_bits n (last_of last bits had)) e ∙ low_bits-octet rest (last_of last bits had)

    pub long_bits : content_bits (set octets (len / 8) (bit_and (last_of last bits had) 255)) (len + count) (last_of last bits had / 256) ≡ content_bits octets len last ++ low_bits count bits
    unfolding content_bits
    long_bits =
        let x = last_of last bits had in
        let front = bits_of (take (len / 8) octets) in
        ap (λ o. bits_of (take ((len + count) / 8) (set octets (len / 8) o)) ++ low_bits ((len + count) % 8) (x / 256)) (and_mask x 8)
        ∙ ap (λ q. bits_of (take q (set octets (len / 8) (x % 256))) ++ low_bits ((len + count) % 8) (x / 256)) next_octet
        ∙ ap (λ r. bits_of (take (len / 8 + 1) (set octets (len / 8) (x % 256))) ++ low_bits r (x / 256)) next_rest
        ∙ ap (λ os. bits_of os ++ low_bits rest (x / 256)) (take_more_set octets (len / 8) (x % 256) place_in)
        ∙ ap (λ os. os ++ low_bits rest (x / 256)) (flat_map-append octet_bits (take (len / 8) octets) (x % 256 ∷ []) ∙ ap (λ os. front ++ os) (append-nil (octet_bits (x % 256))))
        ∙ append_assoc front (octet_bits (x % 256)) (low_bits rest (x / 256))
        ∙ ap (λ os. front ++ os) (sym split_bits ∙ full_bits)
        ∙ sym (append_assoc front (low_bits had last) (low_bits count bits))

    pub long_content : IsContent (set octets (len / 8) (bit_and (last_of last bits had) 255)) (len + count) (last_of last bits had / 256)
    long_content = record {
      room = record {
        len = length-set octets (len / 8) (bit_and (last_of last bits had) 255) ∙ old.room.len;
        small = All-set (λ x. x < 256) octets (len / 8) (bit_and (last_of last bits had) 255) (let e = and_mask (last_of last bits had) 8 in omega (arith, e)) old.room.small;
      };
      within = room;
      small =
          let x = last_of last bits had in
          let e : 2 ^ (had + count) ≡ 2 ^ 8 * 2 ^ rest = let s : had + count ≡ 8 + rest = omega arith in ap (λ n. 2 ^ n) s ∙ pow-add 2 8 rest in
          let less : x / 256 < 2 ^ rest = omega (arith, below, whole, e) in
          subst (λ r. x / 256 < 2 ^ r) (sym next_rest) less;
    }
