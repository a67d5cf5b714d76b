-- Numbers as text. The one spelling that each number has is this project's own.
use Rattle.std.specs.Prelude.{ℕ, zero, suc, ℤ, pos, negsuc, Bool, ◌==◌, ◌&&◌, ◌||◌, not, nat_lt, List, [], ◌∷◌, length, slice_index, Option, Some, None, if◌then◌else◌}
use Rattle.std.specs.Str.{all_ascii_digits}
use Rattle.std.specs.Str.Parse.{digits_value}
use Rattle.std.specs.Option.{option_map}

-- whether a text is `0`, or digits that do not begin with `0`
abbrev pub is_canonical : List ℕ → Bool
is_canonical text = all_ascii_digits text && (nat_lt 0 (length text) && (length text == 1 || not (slice_index text 0 == 48)))

-- the value of a canonical decimal
abbrev pub decimal_value : List ℕ → Option ℕ
decimal_value text = if is_canonical text then Some (digits_value 10 text) else None

-- the number below zero of this size, unless it is 0
abbrev pub below_zero : ℕ → Option ℤ
below_zero zero = None
below_zero (suc n) = Some (negsuc n)

abbrev pub negated : Option ℕ → Option ℤ
negated (Some n) = below_zero n
negated None = None

-- the value of a canonical decimal, or of `-` and a canonical decimal other than `0`
abbrev pub signed_value : List ℕ → Option ℤ
signed_value [] = None
signed_value (c ∷ text) = if c == 45 then negated (decimal_value text) else option_map pos (decimal_value (c ∷ text))
