-- The 4B/5B code of IEEE 802.3 clause 24.2.2.1 (table 24-1), which the CPRI Specification V7.0 takes for the fast
-- control and management channel in section 4.2.7.7.2. Groups of five bits are written here as texts of the digits
-- 0 and 1, the first bit on the line at the left, and counted as numbers whose highest bit is the first.
use Rattle.std.specs.Prelude.{ℕ, ◌+◌, ◌^◌, ◌==◌, Bool, if◌then◌else◌, List, [], ◌∷◌, ◌++◌, map, length, get_or, codes, Option}
use Rattle.std.specs.List.{position}

-- the five bits of the nibbles 0 to 15
unfoldable pub nibble_texts : List (List ℕ)
nibble_texts =
    codes "11110" ∷ codes "01001" ∷ codes "10100" ∷ codes "10101"
    ∷ codes "01010" ∷ codes "01011" ∷ codes "01110" ∷ codes "01111"
    ∷ codes "10010" ∷ codes "10011" ∷ codes "10110" ∷ codes "10111"
    ∷ codes "11010" ∷ codes "11011" ∷ codes "11100" ∷ codes "11101"
    ∷ []

-- the bits of a text
abbrev pub text_bits : List ℕ → List Bool
text_bits text = map (λ digit. digit == 49) text

-- bits as a number, the first of them highest
abbrev pub number : List Bool → ℕ
number [] = 0
number (bit ∷ bits) = (if bit then 2 ^ length bits else 0) + number bits

-- the group of a text
abbrev pub group_of : List ℕ → ℕ
group_of text = number (text_bits text)

-- the group of a nibble
unfoldable pub code_of : ℕ → ℕ
code_of nibble = group_of (get_or nibble_texts nibble [])

-- the nibble whose group this is
unfoldable pub nibble_of : ℕ → Option ℕ
nibble_of group = position (λ text. group_of text == group) nibble_texts

-- the nibbles 5 and D
unfoldable pub five : ℕ
five = code_of 5

unfoldable pub delimiter : ℕ
delimiter = code_of 13

-- T and R
unfoldable pub terminate : ℕ
terminate = group_of (codes "01101")

unfoldable pub reset : ℕ
reset = group_of (codes "00111")

-- J and K, one after the other
unfoldable pub start : List Bool
start = text_bits (codes "11000") ++ text_bits (codes "10001")

-- I
unfoldable pub idle : List Bool
idle = text_bits (codes "11111")

-- the whole groups of five of a list of bits
abbrev pub groups : List Bool → List ℕ
groups (a ∷ b ∷ c ∷ d ∷ e ∷ bits) = number (a ∷ b ∷ c ∷ d ∷ e ∷ []) ∷ groups bits
groups _ = []
