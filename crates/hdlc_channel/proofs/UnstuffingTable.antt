-- The table of octets without stuffing is held against the definition at each entry, by computing.
use Rattle.std.proofs.Common.{◌≡◌, ℕ, suc, ◌+◌, ◌*◌, ◌/◌, ◌%◌, ◌^◌, ◌<◌, ◌≤◌, ◌==◌, min, Bool, true, false, List, [], ◌∷◌, length, get_or, bit_and, Option, Some, None, refl, sym, ap, ◌∙◌, subst, arith, inl, inr}
use Rattle.std.proofs.lemmas.Bool.{cond-true, cond-false, cases_Bool}
use Rattle.std.proofs.lemmas.Nat.{and_mask}
use Rattle.std.proofs.Math.Nat.{pow-le-pow_right}
use Rattle.hdlc_channel.specs.Bits.{low_bits, octet_bits, number_of}
use Rattle.hdlc_channel.specs.Quiet.{with_bit, quiet_bits, quiet_number, quiet_entry}
use Rattle.hdlc_channel.specs.declared.unstuffing.TheConstants.{UNSTUFFED}
use Rattle.hdlc_channel.proofs.Contents.{length-low_bits}
use Rattle.hdlc_channel.proofs.StuffedBits.{number_of-lt, low_bits-number_of}
use Rattle.hdlc_channel.proofs.StuffingTable.{agrees, agrees_at}

entry_of : ℕ → ℕ
entry_of n = quiet_entry (n / 256) (n % 256)

entries_are : agrees entry_of 0 UNSTUFFED ≡ true
unfolding agrees entry_of quiet_entry quiet_bits number_of low_bits
entries_are = refl

pub entry_at : (ones octet : ℕ) → ones ≤ 7 → octet < 256 → get_or UNSTUFFED (ones * 256 + octet) 0 ≡ quiet_entry ones octet
unfolding entry_of
entry_at ones octet few small =
    let n = ones * 256 + octet in
    let e : 0 + n ≡ n = omega arith in
    let high : n / 256 ≡ ones = omega arith in
    let low : n % 256 ≡ octet = omega arith in
    let size : length UNSTUFFED ≡ 2048 = refl in
    agrees_at entry_of 0 UNSTUFFED n entries_are (omega (arith, size))
    ∙ ap entry_of e ∙ ap (λ a. quiet_entry a (n % 256)) high ∙ ap (quiet_entry ones) low

-- ---- an entry, taken apart

-- how many bits and 1s there are at most
record IsSmall (n : ℕ) (o : Option (ℕ × List Bool)) : Type 0 where
  pub bits : (ones : ℕ) (bits : List Bool) → o ≡ Some (ones, bits) → length bits ≤ n
  pub ones : (ones : ℕ) (bits : List Bool) → o ≡ Some (ones, bits) → ones ≤ 7

small_none : (n : ℕ) → IsSmall n None
small_none n = record { bits = λ ones bits e. cc; ones = λ ones bits e. cc }

small_with : (n : ℕ) (b : Bool) (o : Option (ℕ × List Bool)) → IsSmall n o → IsSmall (suc n) (with_bit b o)
small_with n b None h = small_none (suc n)
small_with n b (Some (ones, bits)) h = record {
  bits = λ ones' bits' e. let pair : ◌≡◌ {A = ℕ × List Bool} (ones, b ∷ bits) (ones', bits') = cc in let same : b ∷ bits ≡ bits' = ap (λ p. p.1) pair in let l = h.bits ones bits refl in subst (λ xs. length xs ≤ suc n) same (omega arith);
  ones = λ ones' bits' e. let pair : ◌≡◌ {A = ℕ × List Bool} (ones, b ∷ bits) (ones', bits') = cc in let same : ones ≡ ones' = ap (λ p. p.0) pair in subst (λ k. k ≤ 7) same (h.ones ones bits refl);
}

small_more : (n : ℕ) (o : Option (ℕ × List Bool)) → IsSmall n o → IsSmall (suc n) o
small_more n o h = record { bits = λ ones bits e. let l = h.bits ones bits e in omega arith; ones = h.ones }

quiet_small : (bits : List Bool) (ones : ℕ) → ones ≤ 7 → IsSmall (length bits) (quiet_bits ones bits)
unfolding quiet_bits
quiet_small [] ones few = record {
  bits = λ ones' bits' e. let pair : ◌≡◌ {A = ℕ × List Bool} (ones, []) (ones', bits') = cc in let same : [] ≡ bits' = ap (λ p. p.1) pair in subst (λ xs. length xs ≤ 0) same (omega arith);
  ones = λ ones' bits' e. let pair : ◌≡◌ {A = ℕ × List Bool} (ones, []) (ones', bits') = cc in let same : ones ≡ ones' = ap (λ p. p.0) pair in subst (λ k. k ≤ 7) same few;
}
quiet_small (true ∷ bits) ones few =
    elim (cases_Bool (ones == 6)) [
      | inl on ↦ subst (IsSmall (suc (length bits))) (sym (cond-true (ones == 6) None _ on)) (small_none (suc (length bits)))
      | inr off ↦ subst (IsSmall (suc (length bits))) (sym (cond-false (ones == 6) None _ off))
          (small_with (length bits) true (quiet_bits (min 7 (ones + 1)) bits) (quiet_small bits (min 7 (ones + 1)) (omega arith)))
    ]
quiet_small (false ∷ bits) ones few =
    elim (cases_Bool (ones == 5)) [
      | inl on ↦ subst (IsSmall (suc (length bits))) (sym (cond-true (ones == 5) (quiet_bits 0 bits) _ on)) (small_more (length bits) (quiet_bits 0 bits) (quiet_small bits 0 (omega arith)))
      | inr off ↦ subst (IsSmall (suc (length bits))) (sym (cond-false (ones == 5) (quiet_bits 0 bits) _ off))
          (elim (cases_Bool (ones == 6)) [
            | inl six ↦ subst (IsSmall (suc (length bits))) (sym (cond-true (ones == 6) None _ six)) (small_none (suc (length bits)))
            | inr other ↦ subst (IsSmall (suc (length bits))) (sym (cond-false (ones == 6) None _ other))
                (small_with (length bits) false (quiet_bits 0 bits) (quiet_small bits 0 (omega arith)))
          ])
    ]

-- what an entry that is not 0 says
pub record Says (entry : ℕ) (o : Option (ℕ × List Bool)) : Type 0 where
  pub bits : o ≡ Some (bit_and (entry / 4096) 7, low_bits (bit_and (entry / 256) 15) (bit_and entry 255))
  pub small : bit_and entry 255 < 2 ^ bit_and (entry / 256) 15
  pub few : bit_and (entry / 256) 15 ≤ 8

says_of : (entry : ℕ) (o : Option (ℕ × List Bool)) → IsSmall 8 o → entry ≡ quiet_number o → (entry ≡ 0 → ⊥) → Says entry o
says_of entry None h e some = absurd (some e)
says_of entry (Some (ones, bits)) h e some =
    let few = h.bits ones bits refl in
    let few_ones = h.ones ones bits refl in
    let number = number_of-lt bits in
    let power : 2 ^ length bits ≤ 2 ^ 8 = pow-le-pow_right {n = 2} (omega arith) {i = length bits} {j = 8} few in
    let low : bit_and entry 255 ≡ number_of bits = and_mask entry 8 ∙ omega arith in
    let count : bit_and (entry / 256) 15 ≡ length bits = and_mask (entry / 256) 4 ∙ omega arith in
    let after : bit_and (entry / 4096) 7 ≡ ones = and_mask (entry / 4096) 3 ∙ omega arith in
    record {
      bits = ap (λ k. Some (k, bits)) (sym after)
          ∙ ap (λ xs. Some (bit_and (entry / 4096) 7, xs)) (sym (ap (λ n. low_bits n (bit_and entry 255)) count ∙ ap (low_bits (length bits)) low ∙ low_bits-number_of bits));
      small = subst (λ n. n < 2 ^ bit_and (entry / 256) 15) (sym low) (subst (λ n. number_of bits < 2 ^ n) (sym count) number);
      few = omega (arith, count, few);
    }

pub says : (ones octet entry : ℕ) → ones ≤ 7 → entry ≡ quiet_entry ones octet → (entry ≡ 0 → ⊥) → Says entry (quiet_bits ones (octet_bits octet))
unfolding quiet_entry
says ones octet entry few is some =
    let long = length-low_bits 8 octet in
    says_of entry (quiet_bits ones (octet_bits octet)) (subst (λ n. IsSmall n (quiet_bits ones (octet_bits octet))) long (quiet_small (octet_bits octet) ones few)) is some
