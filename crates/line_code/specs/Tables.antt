-- How the entries of this project's own tables are laid out. No contract of a public call names them.
use Rattle.std.specs.Prelude.{◌≡◌, ◌≤◌, ◌+◌, ◌*◌, ℕ, ◌/◌, ◌%◌, Bool, ◌==◌, if◌then◌else◌, true, false, List, [], ◌∷◌, Option, Some, None}
use Rattle.line_code.specs.declared.characters.Char.{Char}
use Rattle.line_code.specs.declared.characters.Char.TheVariants.{Octet, Comma}
use Rattle.line_code.specs.declared.characters.Rd.{Rd}
use Rattle.line_code.specs.declared.characters.Rd.TheVariants.{Minus, Plus}
use Rattle.line_code.specs.Code.{disparity_by_ones}
use Rattle.line_code.specs.Decoded.{spelled_at, is_violation_by}

-- the other disparity
abbrev pub opposite : Rd → Rd
opposite Minus = Plus
opposite Plus = Minus

-- a disparity as a number
abbrev pub rd_number : Rd → ℕ
rd_number Minus = 0
rd_number Plus = 1

-- whether a disparity is positive
abbrev pub is_plus : Rd → Bool
is_plus Minus = false
is_plus Plus = true

-- the disparity after a symbol that turns it, or leaves it
abbrev pub turned : Rd → Bool → Rd
turned rd turns = if turns then opposite rd else rd

-- ---- an entry of the table of what symbols spell

-- with its bits about a disparity in the places of those about negative disparity
abbrev pub about : Rd → ℕ → ℕ
about Minus entry = entry
about Plus entry = entry / 2

-- the disparity after the symbol
unfoldable pub disparity_past : Rd → ℕ → Rd
disparity_past rd entry = if about rd entry % 2 == 1 then Plus else Minus

-- 1 where the symbol is a violation at a disparity, and else 0
unfoldable pub violations_of : Rd → ℕ → ℕ
violations_of rd entry = about rd entry / 4 % 2

abbrev pub is_spelled_at : Rd → ℕ → Bool
is_spelled_at rd entry = violations_of rd entry == 0

unfoldable pub is_comma_entry : ℕ → Bool
is_comma_entry entry = entry / 16 % 2 == 1

-- whether the symbol spells an octet
unfoldable pub is_octet_entry : ℕ → Bool
is_octet_entry entry = entry / 32 % 2 == 0

-- the character of a symbol that is no violation at both disparities
unfoldable pub entry_character : ℕ → Char
entry_character entry = if is_comma_entry entry then Comma else Octet (entry / 256)

-- the character that the symbol spells at either disparity
abbrev pub entry_decoded : ℕ → Option Char
entry_decoded entry = if entry / 4 % 4 == 3 then None else Some (entry_character entry)

-- ---- the marks of symbols

-- The marks of a symbol of these bits, each 1 or 0: whether the disparity after it is positive, whether it stays, and whether
-- the symbol is a violation at negative and at positive disparity.
pub record HasMarks (bits plus stays at_minus at_plus : ℕ) : Type 0 where
  pub either : plus + stays ≤ 1
  pub minus_few : at_minus ≤ 1
  pub plus_few : at_plus ≤ 1
  pub after_minus : rd_number (disparity_by_ones Minus bits) ≡ plus
  pub after_plus : rd_number (disparity_by_ones Plus bits) ≡ plus + stays
  pub violates_minus : is_violation_by (spelled_at Minus bits) ≡ at_minus
  pub violates_plus : is_violation_by (spelled_at Plus bits) ≡ at_plus

-- The marks of symbols one after another: a number for each kind of mark, whose bit i is the mark of symbol i.
abbrev pub HaveMarks : List ℕ → ℕ → ℕ → ℕ → ℕ → Type 0
HaveMarks [] plus stays at_minus at_plus = (plus ≡ 0) × (stays ≡ 0) × (at_minus ≡ 0) × (at_plus ≡ 0)
HaveMarks (bits ∷ symbols) plus stays at_minus at_plus =
    HasMarks bits (plus % 2) (stays % 2) (at_minus % 2) (at_plus % 2)
    × HaveMarks symbols (plus / 2) (stays / 2) (at_minus / 2) (at_plus / 2)

-- the marks of at most sixteen symbols as one number, sixteen bits for each kind
pub record AreMarkedBy (symbols : List ℕ) (marks : ℕ) : Type 0 where
  pub plus : ℕ
  pub stays : ℕ
  pub at_minus : ℕ
  pub at_plus : ℕ
  pub value : marks ≡ plus + 65536 * stays + 4294967296 * at_minus + 281474976710656 * at_plus
  pub have : HaveMarks symbols plus stays at_minus at_plus
