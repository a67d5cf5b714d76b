-- What a receiver makes of symbols that may be damaged (IEEE 802.3 clause 36.2.4.6: a code group that the present running
-- disparity does not have is a violation). That a damaged symbol stands for the octet 0 is this project's own.
use Rattle.std.specs.Prelude.{ℕ, ◌+◌, ◌==◌, Bool, true, false, List, [], ◌∷◌, map, find, Option, Some, None}
use Rattle.std.specs.List.{range_with_len}
use Rattle.line_code.specs.declared.characters.Char.{Char}
use Rattle.line_code.specs.declared.characters.Char.TheVariants.{Octet, Comma}
use Rattle.line_code.specs.declared.characters.Rd.{Rd}
use Rattle.line_code.specs.declared.characters.Rd.TheVariants.{Minus, Plus}
use Rattle.line_code.specs.Code.{symbol_of, disparity_by_ones}

-- the comma and all octets
unfoldable pub all_characters : List Char
all_characters = Comma ∷ map Octet (range_with_len 0 256)

-- the character that a symbol spells at a disparity
unfoldable pub spelled_at : Rd → ℕ → Option Char
spelled_at rd bits = find (λ ch. symbol_of rd ch == bits) all_characters

-- that character with the disparity after the symbol
abbrev pub with_next : Rd → ℕ → Option Char → Option (Char × Rd)
with_next rd bits None = None
with_next rd bits (Some ch) = Some (ch, disparity_by_ones rd bits)

abbrev pub or_else : Option Char → Option Char → Option Char
or_else None other = other
or_else (Some ch) other = Some ch

-- the character that a symbol spells at either disparity
unfoldable pub decoded : ℕ → Option Char
decoded bits = or_else (spelled_at Minus bits) (spelled_at Plus bits)

-- a character as an octet, the comma as BCh, and 0 for none
abbrev pub octet_by : Option Char → ℕ
octet_by None = 0
octet_by (Some (Octet octet)) = octet
octet_by (Some Comma) = 0xbc

unfoldable pub octet_of : ℕ → ℕ
octet_of bits = octet_by (decoded bits)

abbrev pub is_comma_by : Option Char → Bool
is_comma_by (Some Comma) = true
is_comma_by _ = false

unfoldable pub is_comma : ℕ → Bool
is_comma bits = is_comma_by (decoded bits)

abbrev pub is_octet_by : Option Char → Bool
is_octet_by (Some (Octet octet)) = true
is_octet_by _ = false

-- whether a symbol spells an octet, and not the comma, at either disparity
unfoldable pub is_octet : ℕ → Bool
is_octet bits = is_octet_by (decoded bits)

abbrev pub is_violation_by : Option Char → ℕ
is_violation_by None = 1
is_violation_by (Some ch) = 0

-- the violations among symbols, from a disparity on
unfoldable pub violations_in : Rd → List ℕ → ℕ
violations_in rd [] = 0
violations_in rd (bits ∷ symbols) = is_violation_by (spelled_at rd bits) + violations_in (disparity_by_ones rd bits) symbols

-- the disparity after symbols
unfoldable pub disparity_along : Rd → List ℕ → Rd
disparity_along rd [] = rd
disparity_along rd (bits ∷ symbols) = disparity_along (disparity_by_ones rd bits) symbols
