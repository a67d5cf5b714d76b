-- The marks of each symbol are held against the table of what symbols spell, by computing.
use Rattle.std.proofs.Common.{◌≡◌, ℕ, zero, suc, ◌+◌, ◌-◌, ◌*◌, ◌/◌, ◌%◌, ◌<◌, ◌≤◌, Bool, true, false, ◌&&◌, ◌==◌, nat_le, List, [], ◌∷◌, length, get_or, refl, sym, ◌∙◌, ap, arith, cond}
use Rattle.std.proofs.lemmas.Bool.{and_parts, eqb-true, eqb-false, leb-true}
use Rattle.line_code.specs.declared.characters.Rd.{Rd}
use Rattle.line_code.specs.declared.characters.Rd.TheVariants.{Minus, Plus}
use Rattle.line_code.specs.declared.tables.TheConstants.{SPELLED}
use Rattle.line_code.specs.declared.marks.TheConstants.{MARKS}
use Rattle.line_code.specs.Code.{disparity_by_ones}
use Rattle.line_code.specs.Decoded.{spelled_at, is_violation_by}
use Rattle.line_code.specs.Tables.{disparity_past, violations_of, rd_number, HasMarks, AreMarkedBy}
use Rattle.line_code.proofs.DecodeTable.{past_by_ones}
use Rattle.line_code.proofs.Spelling.{violations_of_entry}

-- whether marks are those of an entry
is_marked : ℕ → ℕ → Bool
is_marked entry marks =
    nat_le (entry % 2) (entry / 2 % 2) && marks == entry % 2 + 65536 * (entry / 2 % 2 - entry % 2) + 4294967296 * (entry / 4 % 2) + 281474976710656 * (entry / 8 % 2)

are_marked : List ℕ → List ℕ → Bool
are_marked [] marks = true
are_marked (entry ∷ entries) [] = false
are_marked (entry ∷ entries) (m ∷ marks) = is_marked entry m && are_marked entries marks

table_is_marked : are_marked SPELLED MARKS ≡ true
unfolding are_marked is_marked
table_is_marked = refl

marked_at : (entries marks : List ℕ) → are_marked entries marks ≡ true → (k : ℕ) → k < length entries → is_marked (get_or entries k 0) (get_or marks k 0) ≡ true
unfolding are_marked
marked_at [] marks h k lt = absurd (omega arith)
marked_at (entry ∷ entries) [] h k lt = absurd (let wrong : false ≡ true = h in cc)
marked_at (entry ∷ entries) (m ∷ marks) h zero lt = (and_parts (is_marked entry m) (are_marked entries marks) h).0
marked_at (entry ∷ entries) (m ∷ marks) h (suc k) lt = marked_at entries marks (and_parts (is_marked entry m) (are_marked entries marks) h).1 k (omega arith)

-- a disparity by a bit
by_bit : (b : ℕ) → b ≤ 1 → rd_number (cond (b == 1) Plus Minus) ≡ b
by_bit b few = by (b == 1) refl
  where
    by : (c : Bool) → (b == 1) ≡ c → rd_number (cond (b == 1) Plus Minus) ≡ b
    by true e = ap (λ c. rd_number (cond c Plus Minus)) e ∙ sym (eqb-true b 1 e)
    by false e = ap (λ c. rd_number (cond c Plus Minus)) e ∙ (let zero_bit : 0 ≡ b = omega (arith, eqb-false b 1 e) in zero_bit)

after_minus : (entry : ℕ) → rd_number (disparity_past Minus entry) ≡ entry % 2
unfolding disparity_past
after_minus entry = by_bit (entry % 2) (omega arith)

after_plus : (entry : ℕ) → rd_number (disparity_past Plus entry) ≡ entry / 2 % 2
unfolding disparity_past
after_plus entry = by_bit (entry / 2 % 2) (omega arith)

violates_plus : (entry : ℕ) → violations_of Plus entry ≡ entry / 8 % 2
unfolding violations_of
violates_plus entry = omega arith

violates_minus : (entry : ℕ) → violations_of Minus entry ≡ entry / 4 % 2
unfolding violations_of
violates_minus entry = refl

-- the same marks by other names
pub same_marks : (bits p n a b p' n' a' b' : ℕ) → HasMarks bits p n a b → p' ≡ p → n' ≡ n → a' ≡ a → b' ≡ b → HasMarks bits p' n' a' b'
same_marks bits p n a b p' n' a' b' h ep en ea eb = record {
  either = omega (arith, h.either, ep, en);
  minus_few = omega (arith, h.minus_few, ea);
  plus_few = omega (arith, h.plus_few, eb);
  after_minus = h.after_minus ∙ sym ep;
  after_plus = omega (arith, h.after_plus, ep, en);
  violates_minus = h.violates_minus ∙ sym ea;
  violates_plus = h.violates_plus ∙ sym eb;
}

pub marks_of_symbol : (bits : ℕ) → bits < 1024 → AreMarkedBy (bits ∷ []) (get_or MARKS bits 0)
unfolding is_marked
marks_of_symbol bits small =
    let entry = get_or SPELLED bits 0 in
    let marks = get_or MARKS bits 0 in
    let parts = and_parts (nat_le (entry % 2) (entry / 2 % 2)) _ (marked_at SPELLED MARKS table_is_marked bits small) in
    let grows : entry % 2 ≤ entry / 2 % 2 = leb-true (entry % 2) (entry / 2 % 2) parts.0 in
    let whole : marks ≡ entry % 2 + 65536 * (entry / 2 % 2 - entry % 2) + 4294967296 * (entry / 4 % 2) + 281474976710656 * (entry / 8 % 2) = eqb-true _ _ parts.1 in
    let has : HasMarks bits (entry % 2) (entry / 2 % 2 - entry % 2) (entry / 4 % 2) (entry / 8 % 2) = record {
      either = omega (arith, grows);
      minus_few = omega arith;
      plus_few = omega arith;
      after_minus = ap rd_number (sym (past_by_ones Minus bits small)) ∙ after_minus entry;
      after_plus = ap rd_number (sym (past_by_ones Plus bits small)) ∙ after_plus entry ∙ omega (arith, grows);
      violates_minus = sym (violations_of_entry Minus bits small) ∙ violates_minus entry;
      violates_plus = sym (violations_of_entry Plus bits small) ∙ violates_plus entry;
    } in
    record {
      plus = entry % 2;
      stays = entry / 2 % 2 - entry % 2;
      at_minus = entry / 4 % 2;
      at_plus = entry / 8 % 2;
      value = whole;
      have = (same_marks bits _ _ _ _ _ _ _ _ has (omega arith) (omega arith) (omega arith) (omega arith), (omega arith, omega arith, omega arith, omega arith));
    }

pub marks_few : (bits marks : ℕ) → AreMarkedBy (bits ∷ []) marks → marks ≤ 281479271743489
marks_few bits marks h = omega (arith, h.value, h.have.0.either, h.have.0.minus_few, h.have.0.plus_few, h.have.1.0, h.have.1.1, h.have.1.2, h.have.1.3)

-- ---- what the marks say of a symbol

pub after_symbol : (bits p n a b : ℕ) (h : HasMarks bits p n a b) (rd : Rd) → rd_number (disparity_by_ones rd bits) ≡ (2 * p + n + rd_number rd) / 2
after_symbol bits p n a b h Minus = h.after_minus ∙ omega (arith, h.either)
after_symbol bits p n a b h Plus = h.after_plus ∙ omega (arith, h.either)

pub clean_symbol : (bits p n a b : ℕ) (h : HasMarks bits p n a b) (rd : Rd) → (rd_number rd ≡ 0 → a ≡ 0) → (rd_number rd ≡ 1 → b ≡ 0)
    → is_violation_by (spelled_at rd bits) ≡ 0
clean_symbol bits p n a b h Minus minus plus = h.violates_minus ∙ minus refl
clean_symbol bits p n a b h Plus minus plus = h.violates_plus ∙ plus refl

pub same_rd : (a b : Rd) → rd_number a ≡ rd_number b → a ≡ b
same_rd Minus Minus e = refl
same_rd Plus Plus e = refl
same_rd Minus Plus e = absurd (omega (arith, e))
same_rd Plus Minus e = absurd (omega (arith, e))
