-- Stuffed bits, an octet after another.
use Rattle.std.proofs.Common.{◌≡◌, ℕ, suc, ◌+◌, ◌-◌, ◌*◌, ◌/◌, ◌%◌, ◌^◌, ◌<◌, ◌≤◌, ◌==◌, if◌then◌else◌, Bool, true, false, List, [], ◌∷◌, ◌++◌, length, bit_and, refl, sym, ap, ◌∙◌, subst, arith, inl, inr}
use Rattle.std.proofs.Math.Nat.{pow-suc, pow-le-pow_right}
use Rattle.std.proofs.lemmas.Bool.{cond-false, cases_Bool, eqb-true, eqb-false}
use Rattle.std.proofs.lemmas.Nat.{and_mask}
use Rattle.hdlc_channel.specs.Bits.{low_bits, octet_bits, number_of}
use Rattle.hdlc_channel.specs.SlowStream.{stuffed}
use Rattle.hdlc_channel.specs.Outgoing.{ones_after, stuffed_entry}
use Rattle.hdlc_channel.proofs.Contents.{length-low_bits}

pub number_of-lt : (bits : List Bool) → number_of bits < 2 ^ length bits
unfolding number_of
number_of-lt [] = omega arith
number_of-lt (true ∷ bits) = let p = pow-suc 2 (length bits) in let h = number_of-lt bits in omega arith
number_of-lt (false ∷ bits) = let p = pow-suc 2 (length bits) in let h = number_of-lt bits in omega arith

pub low_bits-number_of : (bits : List Bool) → low_bits (length bits) (number_of bits) ≡ bits
unfolding number_of low_bits
low_bits-number_of [] = refl
low_bits-number_of (true ∷ bits) =
    let low : (1 + 2 * number_of bits) % 2 ≡ 1 = omega arith in
    let high : (1 + 2 * number_of bits) / 2 ≡ number_of bits = omega arith in
    ap (λ b. (b == 1) ∷ low_bits (length bits) ((1 + 2 * number_of bits) / 2)) low ∙ ap (λ n. true ∷ low_bits (length bits) n) high ∙ ap (λ bs. true ∷ bs) (low_bits-number_of bits)
low_bits-number_of (false ∷ bits) =
    let low : (0 + 2 * number_of bits) % 2 ≡ 0 = omega arith in
    let high : (0 + 2 * number_of bits) / 2 ≡ number_of bits = omega arith in
    ap (λ b. (b == 1) ∷ low_bits (length bits) ((0 + 2 * number_of bits) / 2)) low ∙ ap (λ n. false ∷ low_bits (length bits) n) high ∙ ap (λ bs. false ∷ bs) (low_bits-number_of bits)

-- ---- one more 1

pub stuffed-fifth : (ones : ℕ) (bits : List Bool) → ones ≡ 4 → stuffed ones (true ∷ bits) ≡ true ∷ false ∷ stuffed 0 bits
unfolding stuffed
stuffed-fifth ones bits e = ap (λ n. if n == 4 then true ∷ false ∷ stuffed 0 bits else true ∷ stuffed (suc n) bits) e

pub stuffed-one : (ones : ℕ) (bits : List Bool) → (ones == 4) ≡ false → stuffed ones (true ∷ bits) ≡ true ∷ stuffed (suc ones) bits
unfolding stuffed
stuffed-one ones bits e = cond-false (ones == 4) _ _ e

pub ones_after-fifth : (ones : ℕ) (bits : List Bool) → ones ≡ 4 → ones_after ones (true ∷ bits) ≡ ones_after 0 bits
unfolding ones_after
ones_after-fifth ones bits e = ap (λ n. if n == 4 then ones_after 0 bits else ones_after (suc n) bits) e

pub ones_after-one : (ones : ℕ) (bits : List Bool) → (ones == 4) ≡ false → ones_after ones (true ∷ bits) ≡ ones_after (suc ones) bits
unfolding ones_after
ones_after-one ones bits e = cond-false (ones == 4) _ _ e

pub ones_after-le : (ones : ℕ) (bits : List Bool) → ones ≤ 4 → ones_after ones bits ≤ 4
unfolding ones_after
ones_after-le ones [] h = h
ones_after-le ones (false ∷ bits) h = ones_after-le 0 bits (omega arith)
ones_after-le ones (true ∷ bits) h =
    elim (cases_Bool (ones == 4)) [
      | inl on ↦ subst (λ n. n ≤ 4) (sym (ones_after-fifth ones bits (eqb-true ones 4 on))) (ones_after-le 0 bits (omega arith))
      | inr off ↦ let other = eqb-false ones 4 off in subst (λ n. n ≤ 4) (sym (ones_after-one ones bits off)) (ones_after-le (suc ones) bits (omega arith))
    ]

pub stuffed-longer : (ones : ℕ) (bits : List Bool) → length bits ≤ length (stuffed ones bits)
unfolding stuffed
stuffed-longer ones [] = omega arith
stuffed-longer ones (false ∷ bits) = let h = stuffed-longer 0 bits in omega arith
stuffed-longer ones (true ∷ bits) =
    elim (cases_Bool (ones == 4)) [
      | inl on ↦ let e = ap length (stuffed-fifth ones bits (eqb-true ones 4 on)) in let h = stuffed-longer 0 bits in omega arith
      | inr off ↦ let e = ap length (stuffed-one ones bits off) in let h = stuffed-longer (suc ones) bits in omega arith
    ]

-- of five 1s one 0 comes
pub stuffed-within : (ones : ℕ) (bits : List Bool) → ones ≤ 4 → 5 * length (stuffed ones bits) ≤ 6 * length bits + ones
unfolding stuffed
stuffed-within ones [] h = omega arith
stuffed-within ones (false ∷ bits) h = let i = stuffed-within 0 bits (omega arith) in omega arith
stuffed-within ones (true ∷ bits) h =
    elim (cases_Bool (ones == 4)) [
      | inl on ↦ let four = eqb-true ones 4 on in let e = ap length (stuffed-fifth ones bits four) in let i = stuffed-within 0 bits (omega arith) in omega arith
      | inr off ↦ let other = eqb-false ones 4 off in let e = ap length (stuffed-one ones bits off) in let i = stuffed-within (suc ones) bits (omega arith) in omega arith
    ]

pub stuffed-append : (ones : ℕ) (xs ys : List Bool) → stuffed ones (xs ++ ys) ≡ stuffed ones xs ++ stuffed (ones_after ones xs) ys
unfolding stuffed ones_after
stuffed-append ones [] ys = refl
stuffed-append ones (false ∷ xs) ys = ap (λ bs. false ∷ bs) (stuffed-append 0 xs ys)
stuffed-append ones (true ∷ xs) ys =
    elim (cases_Bool (ones == 4)) [
      | inl on ↦
          let four = eqb-true ones 4 on in
          stuffed-fifth ones (xs ++ ys) four ∙ ap (λ bs. true ∷ false ∷ bs) (stuffed-append 0 xs ys)
          ∙ sym (ap (λ bs. bs ++ stuffed (ones_after ones (true ∷ xs)) ys) (stuffed-fifth ones xs four) ∙ ap (λ n. true ∷ false ∷ (stuffed 0 xs ++ stuffed n ys)) (ones_after-fifth ones xs four))
      | inr off ↦
          stuffed-one ones (xs ++ ys) off ∙ ap (λ bs. true ∷ bs) (stuffed-append (suc ones) xs ys)
          ∙ sym (ap (λ bs. bs ++ stuffed (ones_after ones (true ∷ xs)) ys) (stuffed-one ones xs off) ∙ ap (λ n. true ∷ (stuffed (suc ones) xs ++ stuffed n ys)) (ones_after-one ones xs off))
    ]

-- ---- the entry of an octet, taken apart

module _ (ones octet entry : ℕ) (few : ones ≤ 4) (is : entry ≡ stuffed_entry ones octet) where
  bits : List Bool
  bits = stuffed ones (octet_bits octet)

  shorter : length bits ≤ 10
  unfolding bits
  shorter = let h = stuffed-within ones (octet_bits octet) few in let e = length-low_bits 8 octet in omega arith

  longer : 8 ≤ length bits
  unfolding bits
  longer = let h = stuffed-longer ones (octet_bits octet) in let e = length-low_bits 8 octet in omega arith

  number : number_of bits < 1024
  number = let h = number_of-lt bits in let p : 2 ^ length bits ≤ 2 ^ 10 = pow-le-pow_right {n = 2} (omega arith) {i = length bits} {j = 10} shorter in omega arith

  whole : entry ≡ number_of bits + 1024 * (length bits - 8) + 4096 * ones_after ones (octet_bits octet)
  unfolding bits stuffed_entry
  whole = is

  entry_number : bit_and entry 0x3ff ≡ number_of bits
  entry_number = and_mask entry 10 ∙ omega (arith, whole, number)

  entry_length : 8 + bit_and (entry / 1024) 3 ≡ length bits
  entry_length = let m = and_mask (entry / 1024) 2 in omega (arith, whole, number, shorter, longer)

  pub entry_ones : entry / 4096 ≡ ones_after ones (octet_bits octet)
  entry_ones = omega (arith, whole, number, shorter, longer)

  pub entry_bits : low_bits (8 + bit_and (entry / 1024) 3) (bit_and entry 0x3ff) ≡ stuffed ones (octet_bits octet)
  unfolding bits
  entry_bits = ap (λ n. low_bits (8 + bit_and (entry / 1024) 3) n) entry_number ∙ ap (λ n. low_bits n (number_of bits)) entry_length ∙ low_bits-number_of bits

  pub entry_small : bit_and entry 0x3ff < 2 ^ (8 + bit_and (entry / 1024) 3)
  entry_small = let h = number_of-lt bits in subst (λ n. n < 2 ^ (8 + bit_and (entry / 1024) 3)) (sym entry_number) (subst (λ n. number_of bits < 2 ^ n) (sym entry_length) h)

  pub entry_within : 8 + bit_and (entry / 1024) 3 ≤ 10
  entry_within = omega (arith, entry_length, shorter)

  pub entry_few : entry / 4096 ≤ 4
  entry_few = let h = ones_after-le ones (octet_bits octet) few in omega (arith, entry_ones)
