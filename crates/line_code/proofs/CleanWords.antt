-- Symbols at once: the carries of a sum are the disparities before each.
use Rattle.std.proofs.Common.{◌≡◌, ℕ, suc, ◌+◌, ◌*◌, ◌/◌, ◌%◌, ◌^◌, ◌<◌, ◌≤◌, min, bit_and, bit_xor, List, [], ◌∷◌, ◌++◌, length, refl, sym, ◌∙◌, ap, subst, arith}
use Rattle.std.proofs.Math.Nat.{pow-succ'}
use Rattle.std.specs.Int.{bit_at}
use Rattle.std.proofs.lemmas.Nat.Bits.{bit_at_and, bit_at_xor, bit_at-zero, bit_at-suc, bit_at-lt}
use Rattle.line_code.specs.declared.characters.Rd.{Rd}
use Rattle.line_code.specs.declared.characters.Rd.TheVariants.{Minus, Plus}
use Rattle.line_code.specs.Code.{disparity_by_ones}
use Rattle.line_code.specs.Decoded.{violations_in, disparity_along}
use Rattle.line_code.specs.Packed.{four_symbols}
use Rattle.line_code.specs.Tables.{rd_number, HaveMarks, AreMarkedBy}
use Rattle.line_code.proofs.MarkTable.{after_symbol, clean_symbol, same_marks, same_rd}
use Rattle.line_code.specs.Clean.{IsClean}

-- ---- marks of symbols one after another

-- the numbers below which each kind of mark of these symbols stays
two_to : List ℕ → ℕ
two_to [] = 1
two_to (bits ∷ symbols) = 2 * two_to symbols

record AreFew (room p n a b : ℕ) : Type 0 where
  plus : p < room
  stays : n < room
  at_minus : a < room
  at_plus : b < room

have_few : (symbols : List ℕ) (p n a b : ℕ) → HaveMarks symbols p n a b → AreFew (two_to symbols) p n a b
unfolding two_to
have_few [] p n a b h = record { plus = omega (arith, h.0); stays = omega (arith, h.1); at_minus = omega (arith, h.2); at_plus = omega (arith, h.3) }
have_few (bits ∷ symbols) p n a b h =
    let f = have_few symbols (p / 2) (n / 2) (a / 2) (b / 2) h.1 in
    record { plus = omega (arith, f.plus); stays = omega (arith, f.stays); at_minus = omega (arith, f.at_minus); at_plus = omega (arith, f.at_plus) }

same_have : (t : List ℕ) (p n a b p' n' a' b' : ℕ) → HaveMarks t p n a b → p ≡ p' → n ≡ n' → a ≡ a' → b ≡ b' → HaveMarks t p' n' a' b'
same_have t p n a b p' n' a' b' h ep en ea eb =
    let h1 : HaveMarks t p' n a b = subst (λ x. HaveMarks t x n a b) ep h in
    let h2 : HaveMarks t p' n' a b = subst (λ x. HaveMarks t p' x a b) en h1 in
    let h3 : HaveMarks t p' n' a' b = subst (λ x. HaveMarks t p' n' x b) ea h2 in
    subst (λ x. HaveMarks t p' n' a' x) eb h3

low_bit : (p q P p' : ℕ) → p' ≡ p + 2 * q * P → p' % 2 ≡ p % 2
low_bit p q P p' e = omega (arith, e)

high_bits : (p q P p' : ℕ) → p' ≡ p + 2 * q * P → p' / 2 ≡ p / 2 + q * P
high_bits p q P p' e = omega (arith, e)

have_append : (s t : List ℕ) (p n a b P N A B p' n' a' b' : ℕ) → HaveMarks s p n a b → HaveMarks t P N A B
    → p' ≡ p + two_to s * P → n' ≡ n + two_to s * N → a' ≡ a + two_to s * A → b' ≡ b + two_to s * B → HaveMarks (s ++ t) p' n' a' b'
unfolding two_to
have_append [] t p n a b P N A B p' n' a' b' h k ep en ea eb =
    same_have t P N A B p' n' a' b' k (omega (arith, ep, h.0)) (omega (arith, en, h.1)) (omega (arith, ea, h.2)) (omega (arith, eb, h.3))
have_append (bits ∷ s) t p n a b P N A B p' n' a' b' h k ep en ea eb =
    let q = two_to s in (
      same_marks bits _ _ _ _ _ _ _ _ h.0 (low_bit p q P p' ep) (low_bit n q N n' en) (low_bit a q A a' ea) (low_bit b q B b' eb),
      have_append s t (p / 2) (n / 2) (a / 2) (b / 2) P N A B (p' / 2) (n' / 2) (a' / 2) (b' / 2) h.1 k
          (high_bits p q P p' ep) (high_bits n q N n' en) (high_bits a q A a' ea) (high_bits b q B b' eb),
    )

-- marks behind those of one symbol
pub marked_one : (bits : ℕ) (t : List ℕ) (m rest marks : ℕ) → AreMarkedBy (bits ∷ []) m → AreMarkedBy t rest → marks ≡ m + 2 * rest → AreMarkedBy (bits ∷ t) marks
unfolding two_to
marked_one bits t m rest marks h k e = record {
  plus = h.plus + 2 * k.plus;
  stays = h.stays + 2 * k.stays;
  at_minus = h.at_minus + 2 * k.at_minus;
  at_plus = h.at_plus + 2 * k.at_plus;
  value = omega (arith, e, h.value, k.value);
  have = have_append (bits ∷ []) t h.plus h.stays h.at_minus h.at_plus k.plus k.stays k.at_minus k.at_plus _ _ _ _ h.have k.have refl refl refl refl;
}

-- marks behind those of four symbols
marked_four : (s0 s1 s2 s3 : ℕ) (t : List ℕ) (m rest marks : ℕ) → AreMarkedBy (s0 ∷ s1 ∷ s2 ∷ s3 ∷ []) m → AreMarkedBy t rest → marks ≡ m + 16 * rest
    → AreMarkedBy ((s0 ∷ s1 ∷ s2 ∷ s3 ∷ []) ++ t) marks
unfolding two_to
marked_four s0 s1 s2 s3 t m rest marks h k e = record {
  plus = h.plus + 16 * k.plus;
  stays = h.stays + 16 * k.stays;
  at_minus = h.at_minus + 16 * k.at_minus;
  at_plus = h.at_plus + 16 * k.at_plus;
  value = omega (arith, e, h.value, k.value);
  have = have_append (s0 ∷ s1 ∷ s2 ∷ s3 ∷ []) t h.plus h.stays h.at_minus h.at_plus k.plus k.stays k.at_minus k.at_plus _ _ _ _ h.have k.have refl refl refl refl;
}

pub four_before : (word : ℕ) (t : List ℕ) (m rest marks : ℕ) → AreMarkedBy (four_symbols word) m → AreMarkedBy t rest → marks ≡ m + 16 * rest
    → AreMarkedBy (four_symbols word ++ t) marks
four_before word t m rest marks h k e =
    marked_four (word % 1024) (word / 1024 % 1024) (word / 1048576 % 1024) (word / 1073741824 % 1024) t m rest marks h k e

-- ---- the disparities as carries

carry_few : (rd : Rd) → rd_number rd ≤ 1
carry_few Minus = omega arith
carry_few Plus = omega arith

first_carry : (sum p n c : ℕ) → sum ≡ 2 * p + n + c → c ≤ 1 → (bit_at sum 0 + bit_at n 0) % 2 ≡ c
first_carry sum p n c e few = omega (arith, e, few)

next_carry : (sum p n c d : ℕ) → sum ≡ 2 * p + n + c → d ≡ (2 * (p % 2) + n % 2 + c) / 2 → sum / 2 ≡ 2 * (p / 2) + n / 2 + d
next_carry sum p n c d e f = omega (arith, e, f)

clean_along : (symbols : List ℕ) (rd : Rd) (p n a b sum : ℕ) → HaveMarks symbols p n a b → sum ≡ 2 * p + n + rd_number rd
    → ((i : ℕ) → i < length symbols → (bit_at sum i + bit_at n i) % 2 ≡ 0 → bit_at a i ≡ 0)
    → ((i : ℕ) → i < length symbols → (bit_at sum i + bit_at n i) % 2 ≡ 1 → bit_at b i ≡ 0)
    → (violations_in rd symbols ≡ 0) × ((bit_at sum (length symbols) + bit_at n (length symbols)) % 2 ≡ rd_number (disparity_along rd symbols))
unfolding violations_in disparity_along
clean_along [] rd p n a b sum h e minus plus = (refl, first_carry sum p n (rd_number rd) e (carry_few rd))
clean_along (bits ∷ symbols) rd p n a b sum h e minus plus =
    let c = rd_number rd in
    let first : (bit_at sum 0 + bit_at n 0) % 2 ≡ c = first_carry sum p n c e (carry_few rd) in
    let clean =
    clean_symbol bits _ _ _ _ h.0 rd
    (λ z. let none : bit_at a 0 ≡ 0 = minus 0 (omega arith) (first ∙ z) in omega (arith, none))
    (λ z. let none : bit_at b 0 ≡ 0 = plus 0 (omega arith) (first ∙ z) in omega (arith, none)) in
    let rest =
    clean_along symbols (disparity_by_ones rd bits) (p / 2) (n / 2) (a / 2) (b / 2) (sum / 2) h.1 (next_carry sum p n c _ e (after_symbol bits _ _ _ _ h.0 rd))
    (λ i lt z. sym (bit_at-suc a i) ∙ minus (suc i) (omega (arith, lt)) (omega (arith, z, bit_at-suc sum i, bit_at-suc n i)))
    (λ i lt z. sym (bit_at-suc b i) ∙ plus (suc i) (omega (arith, lt)) (omega (arith, z, bit_at-suc sum i, bit_at-suc n i))) in
    (omega (arith, clean, rest.0), omega (arith, rest.1, bit_at-suc sum (length symbols), bit_at-suc n (length symbols)))

two_to-length : (symbols : List ℕ) → two_to symbols ≡ 2 ^ length symbols
unfolding two_to
two_to-length [] = refl
two_to-length (bits ∷ symbols) = ap (λ n. 2 * n) (two_to-length symbols) ∙ sym (pow-succ' 2 (length symbols))

sixteen_bits : (symbols : List ℕ) → length symbols ≡ 16 → two_to symbols ≡ 65536
sixteen_bits symbols len = two_to-length symbols ∙ ap (λ n. 2 ^ n) len

pub clean_is : (rd next : Rd) (marks before : ℕ) → before ≡ bit_xor (2 * (marks % 65536) + marks / 65536 % 65536 + rd_number rd) (marks / 65536 % 65536)
    → bit_and (marks / 4294967296 % 65536) before ≡ marks / 4294967296 % 65536 → bit_and (marks / 281474976710656) before ≡ 0
    → before / 65536 % 2 ≡ rd_number next → IsClean rd marks next
clean_is rd next marks before is minus plus e symbols len m =
    let few = have_few symbols m.plus m.stays m.at_minus m.at_plus m.have in
    let room : two_to symbols ≡ 65536 = sixteen_bits symbols len in
    let fp : m.plus < 65536 = omega (arith, few.plus, room) in
    let fn : m.stays < 65536 = omega (arith, few.stays, room) in
    let fa : m.at_minus < 65536 = omega (arith, few.at_minus, room) in
    let p : marks % 65536 ≡ m.plus = omega (arith, m.value, fp) in
    let n : marks / 65536 % 65536 ≡ m.stays = omega (arith, m.value, fp, fn) in
    let a : marks / 4294967296 % 65536 ≡ m.at_minus = omega (arith, m.value, fp, fn, fa) in
    let b : marks / 281474976710656 ≡ m.at_plus = omega (arith, m.value, fp, fn, fa) in
    let sum = 2 * m.plus + m.stays + rd_number rd in
    let xored : before ≡ bit_xor sum m.stays =
    is ∙ ap (λ x. bit_xor (2 * x + marks / 65536 % 65536 + rd_number rd) (marks / 65536 % 65536)) p ∙ ap (λ x. bit_xor (2 * m.plus + x + rd_number rd) x) n in
    let at : (i : ℕ) → bit_at before i ≡ (bit_at sum i + bit_at m.stays i) % 2 = λ i. ap (λ x. bit_at x i) xored ∙ bit_at_xor sum m.stays i in
    let minus_kept : bit_and m.at_minus before ≡ m.at_minus = sym (ap (λ x. bit_and x before) a) ∙ minus ∙ a in
    let plus_none : bit_and m.at_plus before ≡ 0 = sym (ap (λ x. bit_and x before) b) ∙ plus in
    let at_minus : (i : ℕ) → i < length symbols → (bit_at sum i + bit_at m.stays i) % 2 ≡ 0 → bit_at m.at_minus i ≡ 0 =
    λ i lt z. none_kept (bit_at m.at_minus i) (bit_at before i) (sym (bit_at_and m.at_minus before i) ∙ ap (λ x. bit_at x i) minus_kept) (at i ∙ z) in
    let at_plus : (i : ℕ) → i < length symbols → (bit_at sum i + bit_at m.stays i) % 2 ≡ 1 → bit_at m.at_plus i ≡ 0 =
    λ i lt z. all_none (bit_at m.at_plus i) (bit_at before i) (sym (bit_at_and m.at_plus before i) ∙ ap (λ x. bit_at x i) plus_none ∙ bit_at-zero i) (at i ∙ z) (bit_at-lt m.at_plus i) in
    let all = clean_along symbols rd m.plus m.stays m.at_minus m.at_plus sum m.have refl at_minus at_plus in
    let last : bit_at before 16 ≡ rd_number (disparity_along rd symbols) = ap (bit_at before) (sym len) ∙ at (length symbols) ∙ all.1 in
    (all.0, same_rd next (disparity_along rd symbols) (sym e ∙ last))
  where
    none_kept : (x y : ℕ) → min x y ≡ x → y ≡ 0 → x ≡ 0
    none_kept x y h z = omega (arith, h, z)

    all_none : (x y : ℕ) → min x y ≡ 0 → y ≡ 1 → x < 2 → x ≡ 0
    all_none x y h z few = omega (arith, h, z, few)
