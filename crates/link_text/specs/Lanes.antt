-- Hexadecimal digits and octets place by place.
use Rattle.std.specs.Prelude.{ℕ, ◌+◌, ◌*◌, ◌/◌, ◌%◌, ◌<◌, ◌≤◌, ◌==◌, nat_lt, if◌then◌else◌, IsTrue, List, map, slice_index, unwrap_or}
use Rattle.std.specs.List.{range_with_len}
use Rattle.hex.specs.Hex.{hex_digit_value, is_hex_digit}

-- the value of a digit, and 255 for an octet that is no digit
abbrev pub value_or_255 : ℕ → ℕ
value_or_255 c = unwrap_or (hex_digit_value c) 255

-- the octet of two values of digits, in eight bits
abbrev pub joined : ℕ → ℕ → ℕ
joined high low = (high * 16 % 256 + low) % 256

-- the 32 octets of 64 values, two for each
abbrev pub pairs_of : List ℕ → List ℕ
pairs_of values = map (λ k. joined (slice_index values (2 * k)) (slice_index values (2 * k + 1))) (range_with_len 0 32)

-- the octet at a place, by the two digits of the text that are for it
abbrev pub octet_at : List ℕ → ℕ → ℕ
octet_at text k = joined (value_or_255 (slice_index text (2 * k))) (value_or_255 (slice_index text (2 * k + 1)))

-- the text has digits at these places
abbrev pub DigitsBetween : List ℕ → ℕ → ℕ → Type 0
DigitsBetween text start end = (j : ℕ) → start ≤ j → j < end → IsTrue (is_hex_digit (slice_index text j))

-- the digit of a value below 16
abbrev pub digit_of : ℕ → ℕ
digit_of v = if nat_lt v 10 then (v + 48) % 256 else (v + 87) % 256

-- the digit at a place of the text of octets, the one of the higher half first
abbrev pub digit_at : List ℕ → ℕ → ℕ
digit_at octets k = digit_of (if k % 2 == 0 then slice_index octets (k / 2) / 16 else slice_index octets (k / 2) % 16)

-- 32 lanes of two vectors in turn, from a place on
abbrev pub turns : List ℕ → ℕ → List ℕ
turns lanes from = map (λ k. slice_index lanes (k / 2 + 32 * (k % 2))) (range_with_len from 32)
