-- What `check` and `decode` answer is the character that is found among all characters.
use Rattle.std.proofs.Common.{◌≡◌, ◌↔◌, ℕ, zero, suc, ◌+◌, ◌<◌, ◌≤◌, ◌==◌, Bool, true, false, cond, map, get_or, inl, inr, Option, Some, None, refl, sym, ◌∙◌, ap, subst, arith, eq-eqb, lit≤}
use Rattle.std.specs.List.{find, range_with_len}
use Rattle.std.proofs.lemmas.Bool.{cases_eq, eqb-true}
use Rattle.line_code.specs.declared.characters.Char.{Char}
use Rattle.line_code.specs.declared.characters.Char.TheVariants.{Octet, Comma}
use Rattle.line_code.specs.declared.characters.Rd.{Rd}
use Rattle.line_code.specs.declared.characters.Rd.TheVariants.{Minus, Plus}
use Rattle.line_code.specs.Code.{IsCharacter, Spells, IsCheckOf, symbol_of, disparity_after, disparity_by_ones}
use Rattle.line_code.proofs.CodeLaws.{next_by_ones}
use Rattle.line_code.specs.declared.tables.TheConstants.{SPELLED}
use Rattle.line_code.specs.Decoded.{all_characters, spelled_at, with_next, or_else, decoded, is_violation_by}
use Rattle.line_code.specs.Tables.{disparity_past, violations_of, entry_character}
use Rattle.line_code.proofs.DecodeTable.{Spells-entry, entry_of_spelled}

-- ---- the characters that are searched

-- what a search finds passes the test and is a character
Finds : (Char → Bool) → Char → Type 0
Finds test ch = (test ch ≡ true) × IsCharacter ch

found_by : (test : Char → Bool) (first ch : Char) (later : Option Char) (b : Bool) → test first ≡ b → IsCharacter first
    → cond b (Some first) later ≡ Some ch → (later ≡ Some ch → Finds test ch) → Finds test ch
unfolding Finds
found_by test first ch later true is small e more = let here : first ≡ ch = cc in subst (λ c. (test c ≡ true) × IsCharacter c) here (is, small)
found_by test first ch later false is small e more = more e

octets_find : (test : Char → Bool) (a n : ℕ) (ch : Char) → a + n ≤ 256 → find test (map Octet (range_with_len a n)) ≡ Some ch → Finds test ch
octets_find test a zero ch h e = absurd (let wrong : None ≡ Some ch = e in cc)
octets_find test a (suc n) ch h e =
    found_by test (Octet a) ch (find test (map Octet (range_with_len (a + 1) n))) (test (Octet a)) refl (omega arith) e
    (octets_find test (a + 1) n ch (omega arith))

-- a search that finds nothing does not find the first, nor any later one
none_first : (b : Bool) (ch : Char) (later : Option Char) → cond b (Some ch) later ≡ None → b ≡ false
none_first true ch later e = absurd (let wrong : Some ch ≡ None = e in cc)
none_first false ch later e = refl

none_later : (b : Bool) (ch : Char) (later : Option Char) → cond b (Some ch) later ≡ None → later ≡ None
none_later true ch later e = absurd (let wrong : Some ch ≡ None = e in cc)
none_later false ch later e = e

octets_none : (test : Char → Bool) (a n octet : ℕ) → find test (map Octet (range_with_len a n)) ≡ None → a ≤ octet → octet < a + n → test (Octet octet) ≡ false
octets_none test a zero octet e low high = absurd (omega arith)
octets_none test a (suc n) octet e low high =
    elim (cases_eq octet a) [
      | inl same ↦ ap (λ o. test (Octet o)) same ∙ none_first (test (Octet a)) (Octet a) (find test (map Octet (range_with_len (a + 1) n))) e
      | inr other ↦ octets_none test (a + 1) n octet (none_later (test (Octet a)) (Octet a) (find test (map Octet (range_with_len (a + 1) n))) e) (omega (arith, other)) (omega arith)
    ]

all_find : (test : Char → Bool) (ch : Char) → find test all_characters ≡ Some ch → Finds test ch
unfolding all_characters
all_find test ch e =
    found_by test Comma ch (find test (map Octet (range_with_len 0 256))) (test Comma) refl tt e (octets_find test 0 256 ch (lit≤ tt))

all_none : (test : Char → Bool) (ch : Char) → find test all_characters ≡ None → IsCharacter ch → test ch ≡ false
unfolding all_characters
all_none test (Octet octet) e small =
    octets_none test 0 256 octet (none_later (test Comma) Comma (find test (map Octet (range_with_len 0 256))) e) (omega arith) (omega arith)
all_none test Comma e small = none_first (test Comma) Comma (find test (map Octet (range_with_len 0 256))) e

-- ---- at one disparity

pub spelled_is : (rd : Rd) (bits : ℕ) (ch : Char) → spelled_at rd bits ≡ Some ch → Spells rd ch bits (disparity_after rd ch)
unfolding spelled_at Finds
spelled_is rd bits ch e =
    let found = all_find (λ c. symbol_of rd c == bits) ch e in
    record { character = found.1; symbol = sym (eqb-true (symbol_of rd ch) bits found.0); disparity = refl }

pub unspelled : (rd : Rd) (bits : ℕ) (ch : Char) (next : Rd) → spelled_at rd bits ≡ None → Spells rd ch bits next → ⊥
unfolding spelled_at
unspelled rd bits ch next e spells =
    let no : (symbol_of rd ch == bits) ≡ false = all_none (λ c. symbol_of rd c == bits) ch e spells.character in
    let yes : (symbol_of rd ch == bits) ≡ true = eq-eqb (symbol_of rd ch) bits (sym spells.symbol) in
    let wrong : true ≡ false = sym yes ∙ no in cc

pub no_some : {A : Type 0} (x : A) → None ≡ Some x → ⊥
no_some x e = cc

-- what `check` answers
pub checked : (rd : Rd) (bits : ℕ) (answer : Option (Char × Rd)) → IsCheckOf rd bits answer → answer ≡ with_next rd bits (spelled_at rd bits)
checked rd bits answer is = by (spelled_at rd bits) answer refl refl
  where
    by : (found : Option Char) (given : Option (Char × Rd)) → spelled_at rd bits ≡ found → answer ≡ given → answer ≡ with_next rd bits (spelled_at rd bits)
    by (Some ch) given e same =
        let spells = spelled_is rd bits ch e in
        (is ch (disparity_by_ones rd bits)).1 (rw (next_by_ones rd ch bits (disparity_after rd ch) spells) at spells) ∙ sym (ap (with_next rd bits) e)
    by None None e same = same ∙ sym (ap (with_next rd bits) e)
    by None (Some got) e same = absurd (unspelled rd bits got.0 got.1 e ((is got.0 got.1).0 same))

-- ---- at either

pub SpelledBy : ℕ → Char → Type 0
SpelledBy bits ch = (rd : Rd) × (next : Rd) × Spells rd ch bits next

spelled_at_neither : (bits : ℕ) (ch : Char) → spelled_at Minus bits ≡ None → spelled_at Plus bits ≡ None → (rd next : Rd) → Spells rd ch bits next → ⊥
spelled_at_neither bits ch m p Minus next spells = unspelled Minus bits ch next m spells
spelled_at_neither bits ch m p Plus next spells = unspelled Plus bits ch next p spells

neither : (bits : ℕ) (answer a : Option Char) → ((ch : Char) → answer ≡ Some ch → SpelledBy bits ch) → answer ≡ a
    → spelled_at Minus bits ≡ None → spelled_at Plus bits ≡ None → answer ≡ None
unfolding SpelledBy
neither bits answer None spelled same m p = same
neither bits answer (Some ch) spelled same m p =
    let at = spelled ch same in absurd (spelled_at_neither bits ch m p at.0 at.1 at.2)

pub decoded_is : (bits : ℕ) (answer : Option Char) → ((ch : Char) → (answer ≡ Some ch) ↔ ((rd : Rd) × (next : Rd) × Spells rd ch bits next))
    → answer ≡ decoded bits
unfolding decoded SpelledBy
decoded_is bits answer is = by (spelled_at Minus bits) (spelled_at Plus bits) refl refl
  where
    by : (m p : Option Char) → spelled_at Minus bits ≡ m → spelled_at Plus bits ≡ p → answer ≡ or_else (spelled_at Minus bits) (spelled_at Plus bits)
    by (Some ch) p m-is p-is = (is ch).1 (Minus, disparity_after Minus ch, spelled_is Minus bits ch m-is) ∙ sym (ap (λ o. or_else o (spelled_at Plus bits)) m-is)
    by None (Some ch) m-is p-is =
        (is ch).1 (Plus, disparity_after Plus ch, spelled_is Plus bits ch p-is) ∙ sym (ap (λ o. or_else o (spelled_at Plus bits)) m-is ∙ p-is)
    by None None m-is p-is =
        neither bits answer answer (λ ch. (is ch).0) refl m-is p-is ∙ sym (ap (λ o. or_else o (spelled_at Plus bits)) m-is ∙ p-is)

-- ---- what the table has of a violation

one_of_two : (rd : Rd) (entry : ℕ) → ¬ (violations_of rd entry ≡ 0) → violations_of rd entry ≡ 1
unfolding violations_of
one_of_two rd entry h = omega (arith, h)

pub violations_of_entry : (rd : Rd) (bits : ℕ) → bits < 1024 → violations_of rd (get_or SPELLED bits 0) ≡ is_violation_by (spelled_at rd bits)
violations_of_entry rd bits small = by (spelled_at rd bits) refl
  where
    by : (found : Option Char) → spelled_at rd bits ≡ found → violations_of rd (get_or SPELLED bits 0) ≡ is_violation_by (spelled_at rd bits)
    by None e =
        one_of_two rd (get_or SPELLED bits 0) (λ zero.
        unspelled rd bits (entry_character (get_or SPELLED bits 0)) (disparity_past rd (get_or SPELLED bits 0)) e
        (Spells-entry rd bits small (eq-eqb (violations_of rd (get_or SPELLED bits 0)) 0 zero)))
        ∙ sym (ap is_violation_by e)
    by (Some ch) e =
        eqb-true (violations_of rd (get_or SPELLED bits 0)) 0 (entry_of_spelled rd ch bits (disparity_after rd ch) (spelled_is rd bits ch e)).1
        ∙ sym (ap is_violation_by e)
