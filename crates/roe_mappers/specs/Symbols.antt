-- The symbols of a basic frame that a packet carries in mode `tunnel`, and which of them cannot be (IEEE 802.3 clause
-- 36.2.4.6; CPRI Specification V7.0, section 4.2: the comma begins a hyperframe, and stands nowhere else).
use Rattle.std.specs.Prelude.{ℕ, ◌+◌, ◌%◌, ◌==◌, ◌&&◌, Bool, true, not, List, [], ◌∷◌, find, length, slice_index, Option, Some, None}
use Rattle.std.specs.List.{range_with_len}
use Rattle.carrier_plan.specs.declared.plan.Mode.{Mode}
use Rattle.carrier_plan.specs.declared.plan.Mode.TheVariants.{Tunnel, Bytes, Aware}
use Rattle.line_code.specs.Decoded.{decoded}
use Rattle.line_code.specs.Packed.{symbols_in}
use Rattle.line_code.specs.declared.characters.Char.{Char}
use Rattle.line_code.specs.declared.characters.Char.TheVariants.{Octet, Comma}

-- a symbol is bad that spells nothing at either disparity, or an octet where the comma is due, or the comma where it is not
abbrev pub is_bad_by : Bool → Option Char → Bool
is_bad_by comma_is_due None = true
is_bad_by comma_is_due (Some Comma) = not comma_is_due
is_bad_by comma_is_due (Some (Octet octet)) = comma_is_due

-- whether symbol s of frame n is bad: the comma is due as the first symbol of a hyperframe
abbrev pub is_bad_symbol : (n s bits : ℕ) → Bool
is_bad_symbol n s bits = is_bad_by (s == 0 && n % 256 == 0) (decoded bits)

-- the first bad symbol among those of frame n
unfoldable pub first_bad_symbol : ℕ → List ℕ → Option ℕ
first_bad_symbol n symbols = find (λ s. is_bad_symbol n s (slice_index symbols s)) (range_with_len 0 (length symbols))

-- the first bad symbol of the octets that carry frame n; the other modes carry no symbols
abbrev pub bad_symbol : Mode → ℕ → List ℕ → Option ℕ
bad_symbol Tunnel n part = first_bad_symbol n (symbols_in part)
bad_symbol Bytes n part = None
bad_symbol Aware n part = None

-- 1 for a symbol that spells no octet
abbrev pub other_by : Option Char → ℕ
other_by (Some (Octet octet)) = 0
other_by (Some Comma) = 1
other_by None = 1

-- how many symbols spell no octet
unfoldable pub others_in : List ℕ → ℕ
others_in [] = 0
others_in (bits ∷ symbols) = other_by (decoded bits) + others_in symbols
