-- The table of what symbols spell is held against the published code, by computing: each entry at its
-- symbol, and each character's symbol at its entry.
use Rattle.std.proofs.Common.{◌≡◌, ◌↔◌, ℕ, zero, suc, ◌+◌, ◌/◌, ◌%◌, ◌<◌, add-zero, zero-add, refl, sym, ◌∙◌, ap, arith, inl, inr, eq-eqb, cond}
use Rattle.std.proofs.Common.{Bool, true, false, not, ◌&&◌, ◌||◌, ◌==◌, nat_lt, List, [], ◌∷◌, length, get_or, Some, None}
use Rattle.std.specs.Prelude.{if◌then◌else◌}
use Rattle.std.proofs.lemmas.Bool.{and_parts, eqb-true, eqb-false, ltb-true, ne_eqb, cases_lt}
use Rattle.std.proofs.lemmas.Option.{some_pair_parts}
use Rattle.line_code.proofs.OnLiterals.{code_on_literals}
use Rattle.line_code.specs.declared.characters.Char.{Char}
use Rattle.line_code.specs.declared.characters.Char.TheVariants.{Octet, Comma}
use Rattle.line_code.specs.declared.characters.Rd.{Rd}
use Rattle.line_code.specs.declared.characters.Rd.TheVariants.{Minus, Plus}
use Rattle.line_code.specs.declared.tables.TheConstants.{SPELLED}
use Rattle.line_code.specs.Code.{disparity_after, disparity_by_ones, symbol_of, IsCharacter, Spells, IsCheckOf}
use Rattle.line_code.specs.Decoded.{octet_by, is_comma_by, is_octet_by}
use Rattle.line_code.specs.Tables.{disparity_past, violations_of, is_spelled_at, is_comma_entry, is_octet_entry, entry_character, entry_decoded}
use Rattle.line_code.proofs.EncodeTable.{holds_of_octets, at_octet, same_disparity, same_disparity-true, spelled_once}

-- whether a character is the comma or an octet
is_character : Char → Bool
is_character (Octet octet) = nat_lt octet 256
is_character Comma = true

is_character-true : (ch : Char) → is_character ch ≡ true → IsCharacter ch
unfolding is_character
is_character-true (Octet octet) h = ltb-true octet 256 h
is_character-true Comma h = tt

-- whether two characters are the same
same_character : Char → Char → Bool
same_character (Octet a) (Octet b) = a == b
same_character Comma Comma = true
same_character (Octet a) Comma = false
same_character Comma (Octet b) = false

same_character-true : (a b : Char) → same_character a b ≡ true → a ≡ b
unfolding same_character
same_character-true (Octet a) (Octet b) h = rw (eqb-true a b h) refl
same_character-true Comma Comma h = refl
same_character-true (Octet a) Comma h = cc
same_character-true Comma (Octet b) h = cc

-- ---- each entry at its symbol

-- whether an entry is right about its symbol at a disparity
is_right_at : Rd → ℕ → ℕ → Bool
is_right_at rd bits entry =
    not (is_spelled_at rd entry)
    || is_character (entry_character entry) && bits == symbol_of rd (entry_character entry)
    && same_disparity (disparity_past rd entry) (disparity_after rd (entry_character entry))

-- whether its disparity is that of the symbol's ones
goes_by_ones : Rd → ℕ → ℕ → Bool
goes_by_ones rd bits entry = same_disparity (disparity_past rd entry) (disparity_by_ones rd bits)

-- whether its octet is that of its character, and 0 where both disparities have none
has_octet : ℕ → Bool
has_octet entry =
    if entry / 4 % 4 == 3 then entry / 256 == 0 && not (is_comma_entry entry)
    else not (is_comma_entry entry) || entry / 256 == 188

is_right : ℕ → ℕ → Bool
is_right bits entry =
    (is_right_at Minus bits entry && is_right_at Plus bits entry)
    && ((goes_by_ones Minus bits entry && goes_by_ones Plus bits entry) && has_octet entry)

-- whether the entries from one symbol on are right
are_right_from : ℕ → List ℕ → Bool
are_right_from bits [] = true
are_right_from bits (entry ∷ entries) = is_right bits entry && are_right_from (suc bits) entries

table_is_right : are_right_from 0 SPELLED ≡ true
unfolding are_right_from is_right is_right_at goes_by_ones has_octet is_character code_on_literals
table_is_right = refl

-- ---- each character's symbol at its entry

-- whether the entry of a character's symbol names the character
is_found : List ℕ → Rd → Char → Bool
is_found table rd ch =
    let entry = get_or table (symbol_of rd ch) 0 in
    nat_lt (symbol_of rd ch) 1024 && is_spelled_at rd entry && same_character (entry_character entry) ch

octets_are_found : (rd : Rd) → holds_of_octets (λ octet. is_found SPELLED rd (Octet octet)) ≡ true
unfolding is_found same_character code_on_literals
octets_are_found Minus = refl
octets_are_found Plus = refl

commas_are_found : (rd : Rd) → is_found SPELLED rd Comma ≡ true
unfolding is_found same_character code_on_literals
commas_are_found Minus = refl
commas_are_found Plus = refl

found_if_character : (rd : Rd) (ch : Char) → IsCharacter ch → is_found SPELLED rd ch ≡ true
found_if_character rd (Octet octet) small =
    at_octet (λ k. is_found SPELLED rd (Octet k)) (octets_are_found rd) octet small
found_if_character rd Comma h = commas_are_found rd

-- ---- what the tests show

right_along : (n : ℕ) (entries : List ℕ) → are_right_from n entries ≡ true
    → (k : ℕ) → k < length entries → is_right (n + k) (get_or entries k 0) ≡ true
unfolding are_right_from
right_along n [] h k lt = absurd (omega arith)
right_along n (entry ∷ entries) h zero lt =
    rw add-zero (and_parts (is_right n entry) (are_right_from (suc n) entries) h).0
right_along n (entry ∷ entries) h (suc k) lt =
    let parts = and_parts (is_right n entry) (are_right_from (suc n) entries) h in
    let rest = right_along (suc n) entries parts.1 k (omega arith) in
    let same : n + suc k ≡ suc n + k = omega arith in
    rw same rest

right_at : (bits : ℕ) → bits < 1024 → is_right bits (get_or SPELLED bits 0) ≡ true
right_at bits small = let right = right_along 0 SPELLED table_is_right bits small in rw zero-add at right

-- what a test of one entry shows
spells_if_right : (rd : Rd) (bits entry : ℕ) → is_right_at rd bits entry ≡ true → is_spelled_at rd entry ≡ true
    → Spells rd (entry_character entry) bits (disparity_past rd entry)
unfolding is_right_at
spells_if_right rd bits entry h spelled =
    let right = rw spelled at h in
    let ch = entry_character entry in
    let parts = and_parts (is_character ch && bits == symbol_of rd ch) _ right in
    let fronts = and_parts (is_character ch) _ parts.0 in
    record {
      character = is_character-true _ fronts.0;
      symbol = eqb-true _ _ fronts.1;
      disparity = same_disparity-true _ _ parts.1;
    }

right_at_each : (rd : Rd) (bits entry : ℕ) → is_right bits entry ≡ true → is_right_at rd bits entry ≡ true
unfolding is_right
right_at_each rd bits entry h =
    let both = (and_parts (is_right_at Minus bits entry && is_right_at Plus bits entry) _ h).0 in
    let each = and_parts (is_right_at Minus bits entry) _ both in
    elim rd as (λ r. is_right_at r bits entry ≡ true) [ Minus ↦ each.0 | Plus ↦ each.1 ]

ones_at_each : (rd : Rd) (bits entry : ℕ) → is_right bits entry ≡ true → goes_by_ones rd bits entry ≡ true
unfolding is_right
ones_at_each rd bits entry h =
    let others = (and_parts (is_right_at Minus bits entry && is_right_at Plus bits entry) _ h).1 in
    let each = and_parts (goes_by_ones Minus bits entry) _ (and_parts (goes_by_ones Minus bits entry && goes_by_ones Plus bits entry) _ others).0 in
    elim rd as (λ r. goes_by_ones r bits entry ≡ true) [ Minus ↦ each.0 | Plus ↦ each.1 ]

octet_at : (bits entry : ℕ) → is_right bits entry ≡ true → has_octet entry ≡ true
unfolding is_right
octet_at bits entry h =
    let others = (and_parts (is_right_at Minus bits entry && is_right_at Plus bits entry) _ h).1 in
    (and_parts (goes_by_ones Minus bits entry && goes_by_ones Plus bits entry) _ others).1

-- the disparity after each symbol
pub past_by_ones : (rd : Rd) (bits : ℕ) → bits < 1024 → disparity_past rd (get_or SPELLED bits 0) ≡ disparity_by_ones rd bits
unfolding goes_by_ones
past_by_ones rd bits small = same_disparity-true _ _ (ones_at_each rd bits (get_or SPELLED bits 0) (right_at bits small))

-- the octet of an entry
octet_by_test : (none comma : Bool) (octet : ℕ) → cond none (octet == 0 && not comma) (not comma || octet == 188) ≡ true
    → octet ≡ octet_by (cond none None (Some (cond comma Comma (Octet octet))))
octet_by_test true true octet h = absurd (let wrong = (and_parts (octet == 0) false h).1 in cc)
octet_by_test true false octet h = eqb-true octet 0 (and_parts (octet == 0) true h).0
octet_by_test false true octet h = eqb-true octet 188 h
octet_by_test false false octet h = refl

comma_by_test : (none comma : Bool) (octet : ℕ) → cond none (octet == 0 && not comma) (not comma || octet == 188) ≡ true
    → comma ≡ is_comma_by (cond none None (Some (cond comma Comma (Octet octet))))
comma_by_test true true octet h = absurd (let wrong = (and_parts (octet == 0) false h).1 in cc)
comma_by_test true false octet h = refl
comma_by_test false true octet h = refl
comma_by_test false false octet h = refl

-- whether each entry tells whether its symbol spells an octet
tells_octets : ℕ → Bool
tells_octets entry = if entry / 4 % 4 == 3 then not (is_octet_entry entry) else (if is_comma_entry entry then not (is_octet_entry entry) else is_octet_entry entry)

all_tell_octets : List ℕ → Bool
all_tell_octets [] = true
all_tell_octets (entry ∷ entries) = tells_octets entry && all_tell_octets entries

table_tells_octets : all_tell_octets SPELLED ≡ true
unfolding all_tell_octets tells_octets code_on_literals
table_tells_octets = refl

told_at : (entries : List ℕ) → all_tell_octets entries ≡ true → (k : ℕ) → k < length entries → tells_octets (get_or entries k 0) ≡ true
unfolding all_tell_octets
told_at [] h k lt = absurd (omega arith)
told_at (entry ∷ entries) h zero lt = (and_parts (tells_octets entry) (all_tell_octets entries) h).0
told_at (entry ∷ entries) h (suc k) lt = told_at entries (and_parts (tells_octets entry) (all_tell_octets entries) h).1 k (omega arith)

is_octet_by_test : (none comma octet : Bool) (value : ℕ) → cond none (not octet) (cond comma (not octet) octet) ≡ true
    → octet ≡ is_octet_by (cond none None (Some (cond comma Comma (Octet value))))
is_octet_by_test true comma true value h = absurd (let wrong : false ≡ true = h in cc)
is_octet_by_test true comma false value h = refl
is_octet_by_test false true true value h = absurd (let wrong : false ≡ true = h in cc)
is_octet_by_test false true false value h = refl
is_octet_by_test false false true value h = refl
is_octet_by_test false false false value h = absurd (let wrong : false ≡ true = h in cc)

pub is_octet_of_entry : (bits : ℕ) → bits < 1024 → is_octet_entry (get_or SPELLED bits 0) ≡ is_octet_by (entry_decoded (get_or SPELLED bits 0))
unfolding tells_octets entry_character
is_octet_of_entry bits small =
    let entry = get_or SPELLED bits 0 in
    is_octet_by_test (entry / 4 % 4 == 3) (is_comma_entry entry) (is_octet_entry entry) (entry / 256) (told_at SPELLED table_tells_octets bits small)

pub octet_of_entry : (bits : ℕ) → bits < 1024 → get_or SPELLED bits 0 / 256 ≡ octet_by (entry_decoded (get_or SPELLED bits 0))
unfolding has_octet entry_character
octet_of_entry bits small =
    let entry = get_or SPELLED bits 0 in
    octet_by_test (entry / 4 % 4 == 3) (is_comma_entry entry) (entry / 256) (octet_at bits entry (right_at bits small))

pub comma_of_entry : (bits : ℕ) → bits < 1024 → is_comma_entry (get_or SPELLED bits 0) ≡ is_comma_by (entry_decoded (get_or SPELLED bits 0))
unfolding has_octet entry_character
comma_of_entry bits small =
    let entry = get_or SPELLED bits 0 in
    comma_by_test (entry / 4 % 4 == 3) (is_comma_entry entry) (entry / 256) (octet_at bits entry (right_at bits small))

-- an entry spells its character at its symbol
pub Spells-entry : (rd : Rd) (bits : ℕ) → bits < 1024 → is_spelled_at rd (get_or SPELLED bits 0) ≡ true
    → Spells rd (entry_character (get_or SPELLED bits 0)) bits (disparity_past rd (get_or SPELLED bits 0))
Spells-entry rd bits small spelled =
    let right = right_at_each rd bits (get_or SPELLED bits 0) (right_at bits small) in
    spells_if_right rd bits (get_or SPELLED bits 0) right spelled

-- what a test of one character shows
found_by_test : (table : List ℕ) (rd : Rd) (ch : Char) → is_found table rd ch ≡ true
    → (symbol_of rd ch < 1024) × (is_spelled_at rd (get_or table (symbol_of rd ch) 0) ≡ true)
    × (entry_character (get_or table (symbol_of rd ch) 0) ≡ ch)
unfolding is_found
found_by_test table rd ch h =
    let entry = get_or table (symbol_of rd ch) 0 in
    let parts = and_parts (nat_lt (symbol_of rd ch) 1024 && is_spelled_at rd entry) _ h in
    let fronts = and_parts (nat_lt (symbol_of rd ch) 1024) _ parts.0 in
    (ltb-true (symbol_of rd ch) 1024 fronts.0, fronts.1, same_character-true _ _ parts.1)

-- the entry of a spelled symbol names its character
pub entry_of_spelled : (rd : Rd) (ch : Char) (bits : ℕ) (next : Rd) → Spells rd ch bits next
    → (bits < 1024) × (is_spelled_at rd (get_or SPELLED bits 0) ≡ true) × (entry_character (get_or SPELLED bits 0) ≡ ch)
entry_of_spelled rd ch bits next s = rw s.symbol (found_by_test SPELLED rd ch (found_if_character rd ch s.character))

-- ---- what the calls answer

-- a fact about one character holds of an equal one
pub along : (rd : Rd) (bits : ℕ) (a b : Char) (next : Rd) → a ≡ b → Spells rd a bits next → Spells rd b bits next
along rd bits a b next e s = rw (← e) s

pub IsCheckOf-entry : (rd : Rd) (bits : ℕ) → bits < 1024 → is_spelled_at rd (get_or SPELLED bits 0) ≡ true
    → IsCheckOf rd bits (Some (entry_character (get_or SPELLED bits 0), disparity_past rd (get_or SPELLED bits 0)))
IsCheckOf-entry rd bits small spelled ch next =
    let here = Spells-entry rd bits small spelled in (
      λ h. let same = some_pair_parts _ _ _ _ h in rw (← same.0, ← same.1) here,
      λ s. let same = (entry_of_spelled rd ch bits next s).2 in
          let next_same = (spelled_once rd ch bits bits _ next (along rd bits _ ch _ same here) s).1 in
          cc,
    )

-- where a symbol spells nothing at a disparity
pub not_spelled : (rd : Rd) (bits : ℕ) → is_spelled_at rd (get_or SPELLED bits 0) ≡ false
    → (ch : Char) (next : Rd) → ¬ (Spells rd ch bits next)
not_spelled rd bits h ch next s = let found = (entry_of_spelled rd ch bits next s).1 in cc

pub IsCheckOf-none : (rd : Rd) (bits : ℕ) → ((ch : Char) (next : Rd) → ¬ (Spells rd ch bits next)) → IsCheckOf rd bits None
IsCheckOf-none rd bits h ch next = (λ e. cc, λ s. absurd (h ch next s))

-- ---- at either disparity

none_at : (rd : Rd) (entry : ℕ) → entry / 4 % 4 ≡ 3 → is_spelled_at rd entry ≡ false
unfolding violations_of
none_at Minus entry e = ne_eqb _ _ (omega arith)
none_at Plus entry e = ne_eqb _ _ (omega arith)

-- an entry that is a violation at both disparities
pub not_spelled_at_both : (bits : ℕ) → get_or SPELLED bits 0 / 4 % 4 ≡ 3
    → (rd : Rd) (ch : Char) (next : Rd) → ¬ (Spells rd ch bits next)
not_spelled_at_both bits both rd = not_spelled rd bits (none_at rd (get_or SPELLED bits 0) both)

some_disparity : (entry : ℕ) → ¬ (entry / 4 % 4 ≡ 3) → (rd : Rd) × (is_spelled_at rd entry ≡ true)
unfolding violations_of
some_disparity entry other =
    elim (cases_lt 0 (entry / 4 % 2)) [
      | inl minus ↦ (Plus, eq-eqb (entry / 2 / 4 % 2) 0 (omega (arith, other)))
      | inr plus ↦ (Minus, eq-eqb (entry / 4 % 2) 0 (omega arith))
    ]

-- and any other spells it at one
pub spelled_at_some : (bits : ℕ) → bits < 1024 → ¬ (get_or SPELLED bits 0 / 4 % 4 ≡ 3)
    → (rd : Rd) × (next : Rd) × Spells rd (entry_character (get_or SPELLED bits 0)) bits next
spelled_at_some bits small other =
    let found = some_disparity (get_or SPELLED bits 0) other in
    (found.0, _, Spells-entry found.0 bits small found.1)

entry_spells : (bits entry : ℕ) → entry ≡ get_or SPELLED bits 0 → bits < 1024 → (ch : Char)
    → (entry_decoded entry ≡ Some ch) ↔ ((rd : Rd) × (next : Rd) × Spells rd ch bits next)
entry_spells bits entry is small ch = by (entry / 4 % 4 == 3) refl
  where
    by : (b : Bool) → (entry / 4 % 4 == 3) ≡ b → (cond (entry / 4 % 4 == 3) None (Some (entry_character entry)) ≡ Some ch) ↔ ((rd : Rd) × (next : Rd) × Spells rd ch bits next)
    by true e = (
      λ h. absurd (let wrong : None ≡ Some ch = sym (ap (λ b. cond b None (Some (entry_character entry))) e) ∙ h in cc),
      λ spelled. absurd (not_spelled_at_both bits (rw is at (eqb-true (entry / 4 % 4) 3 e)) spelled.0 ch spelled.1 spelled.2),
    )
    by false e =
        let other : ¬ (get_or SPELLED bits 0 / 4 % 4 ≡ 3) = λ same. eqb-false (entry / 4 % 4) 3 e (rw (← is) at same) in
        let here = spelled_at_some bits small other in
        let found : cond (entry / 4 % 4 == 3) None (Some (entry_character entry)) ≡ Some (entry_character (get_or SPELLED bits 0)) =
        ap (λ b. cond b None (Some (entry_character entry))) e ∙ ap (λ n. Some (entry_character n)) is in (
          λ h. let same : entry_character (get_or SPELLED bits 0) ≡ ch = cc in (here.0, here.1, along here.0 bits _ ch here.1 same here.2),
          λ spelled. found ∙ ap Some (entry_of_spelled spelled.0 ch bits spelled.1 spelled.2).2,
        )

pub decoded_spells : (bits : ℕ) → bits < 1024 → (ch : Char)
    → (entry_decoded (get_or SPELLED bits 0) ≡ Some ch) ↔ ((rd : Rd) × (next : Rd) × Spells rd ch bits next)
decoded_spells bits small ch = entry_spells bits (get_or SPELLED bits 0) refl small ch
