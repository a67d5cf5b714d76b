-- Samples of a block put into its containers, and the octets around them.
use Rattle.std.proofs.Common.{◌≡◌, ℕ, zero, suc, ◌+◌, ◌-◌, ◌*◌, ◌<◌, ◌≤◌, List, [], ◌∷◌, ◌++◌, length, get_or, take, drop, sym, refl, ap, ◌∙◌, arith, ⊎_elim, length-take, length-drop}
use Rattle.std.proofs.lemmas.Bool.{cases_lt}
use Rattle.std.proofs.lemmas.Option.{slice_get_read}
use Rattle.std.specs.Option.{option_map_or}
use borrow.Rule.Slice.PartMut.{put_mid, same_len_mid}
use Rattle.link_base.specs.Bits.{bit_of}
use Rattle.sample_bits.specs.declared.iq.RawIq.{RawIq}
use Rattle.sample_bits.specs.BlockPlace.{BlockPlace}
use Rattle.sample_bits.specs.Blocks.{PutsContainer, bit_of_item}
use Rattle.sample_bits.specs.Samples.{sample_bit}
use Rattle.sample_bits.proofs.OctetLemmas.{bit_of-put_mid, bit_of-rest, bit_of-past, bit_of-append_left, bit_of-take}

-- the bits of an item that was read
pub bit_of_item-at : {A : Type 0} (sample : A → RawIq) (items : List A) (r b : ℕ) (x : A) → r < length items → x ≡ get_or items r x → bit_of_item sample items r b ≡ sample_bit (sample x) b
bit_of_item-at sample items r b x within is = ap (λ o. option_map_or (λ y. sample_bit (sample y) b) o 0) (slice_get_read items (length items) r x refl within is)

-- there are none past the last item
pub bit_of_item-past : {A : Type 0} (sample : A → RawIq) (items : List A) (r b : ℕ) → length items ≤ r → bit_of_item sample items r b ≡ 0
bit_of_item-past sample [] r b past = refl
bit_of_item-past sample (x ∷ items) zero b past = absurd (omega arith)
bit_of_item-past sample (x ∷ items) (suc r) b past = bit_of_item-past sample items r b (omega arith)

-- A container that is put into the octets from octet o on is put into the whole.
pub PutsContainer-rest : (m s size : ℕ) (place : ℕ → ℕ → BlockPlace) (phase : ℕ) (bits : ℕ → ℕ → ℕ) (old sub : List ℕ) (o low at : ℕ) → 8 * o + low ≡ at → o ≤ length old → at + size ≤ 8 * length old
    → length sub ≡ length (take (length old - o) (drop o old))
    → PutsContainer m s size place phase bits (take (length old - o) (drop o old)) sub low
    → ((r b : ℕ) → r < s → b < 2 * m → (place r b).bit < size)
    → PutsContainer m s size place phase bits old (put_mid o (length old - o) old sub) at
PutsContainer-rest m s size place phase bits old sub o low at split within room same put inside =
    let new = put_mid o (length old - o) old sub in
    let rest = take (length old - o) (drop o old) in
    let long : length sub + o ≡ length old = omega (arith, length-take (length old - o) (drop o old), length-drop o old) in
    let whole : length new ≡ length old = same_len_mid o (length old - o) old sub same in
    record {
      same_length = whole;
      samples = λ r b h k there.
          let e : at + (place r b).bit ≡ 8 * o + (low + (place r b).bit) = omega arith in
          let less = inside r b h k in
          ap (bit_of new) e ∙ bit_of-put_mid o (length old - o) old sub (low + (place r b).bit) within (omega arith) ∙ put.samples r b h k there;
      stuffing = λ x h none.
          let e : at + x ≡ 8 * o + (low + x) = omega arith in
          ap (bit_of new) e ∙ bit_of-put_mid o (length old - o) old sub (low + x) within (omega arith) ∙ put.stuffing x h none;
      before = λ x h. ⊎_elim
          (λ early. bit_of-append_left (take o old) (sub ++ drop (length old - o) (drop o old)) x (omega (arith, length-take o old)) ∙ bit_of-take o old x early)
          (λ late.
          let e : 8 * o + (x - 8 * o) ≡ x = omega arith in
          ap (bit_of new) (sym e) ∙ bit_of-put_mid o (length old - o) old sub (x - 8 * o) within (omega arith) ∙ put.before (x - 8 * o) (omega arith) ∙ bit_of-rest o old (x - 8 * o) ∙ ap (bit_of old) e)
          (cases_lt x (8 * o));
      after = λ x h. ⊎_elim
          (λ there.
          let e : 8 * o + (x - 8 * o) ≡ x = omega arith in
          ap (bit_of new) (sym e) ∙ bit_of-put_mid o (length old - o) old sub (x - 8 * o) within (omega arith) ∙ put.after (x - 8 * o) (omega arith) ∙ bit_of-rest o old (x - 8 * o) ∙ ap (bit_of old) e)
          (λ past. bit_of-past new x (omega arith) ∙ sym (bit_of-past old x past))
          (cases_lt x (8 * length old));
    }
