-- The 8B/10B transmission code of IEEE 802.3 clause 36.2.4, which the CPRI Specification V7.0 takes for
-- the line in section 4.2: which symbol spells a character at a running disparity, and the disparity
-- after it. An octet Dx.y has x = its low five bits and y = its high three bits. A symbol has the bits
-- a b c d e i f g h j, bit a first on the line. Bits are written here as texts of the digits 0 and 1, bit
-- a first.
use Rattle.std.specs.Prelude.{◌≡◌, ℕ, ◌+◌, ◌-◌, ◌*◌, ◌/◌, ◌%◌, ◌<◌, ◌↔◌, ⊤, not, ◌&&◌, ◌||◌, ◌==◌, nat_lt, if◌then◌else◌, List, [], ◌∷◌, ◌++◌, map, length, get_or, count_by, count_ones, codes, Option, Some}
use Rattle.std.specs.List.{list_any}
use Rattle.line_code.specs.declared.characters.Char.{Char}
use Rattle.line_code.specs.declared.characters.Char.TheVariants.{Octet, Comma}
use Rattle.line_code.specs.declared.characters.Rd.{Rd}
use Rattle.line_code.specs.declared.characters.Rd.TheVariants.{Minus, Plus}

-- the bits a b c d e i of x = 0 to 31 at negative disparity
unfoldable pub six_bits_at_minus : List (List ℕ)
six_bits_at_minus =
    codes "100111" ∷ codes "011101" ∷ codes "101101" ∷ codes "110001"
    ∷ codes "110101" ∷ codes "101001" ∷ codes "011001" ∷ codes "111000"
    ∷ codes "111001" ∷ codes "100101" ∷ codes "010101" ∷ codes "110100"
    ∷ codes "001101" ∷ codes "101100" ∷ codes "011100" ∷ codes "010111"
    ∷ codes "011011" ∷ codes "100011" ∷ codes "010011" ∷ codes "110010"
    ∷ codes "001011" ∷ codes "101010" ∷ codes "011010" ∷ codes "111010"
    ∷ codes "110011" ∷ codes "100110" ∷ codes "010110" ∷ codes "110110"
    ∷ codes "001110" ∷ codes "101110" ∷ codes "011110" ∷ codes "101011"
    ∷ []

-- the bits f g h j of y = 0 to 7, by the disparity after the six bits
unfoldable pub four_bits_table : Rd → List (List ℕ)
four_bits_table Minus =
    codes "1011" ∷ codes "1001" ∷ codes "0101" ∷ codes "1100"
    ∷ codes "1101" ∷ codes "1010" ∷ codes "0110" ∷ codes "1110"
    ∷ []
four_bits_table Plus =
    codes "0100" ∷ codes "1001" ∷ codes "0101" ∷ codes "0011"
    ∷ codes "0010" ∷ codes "1010" ∷ codes "0110" ∷ codes "0001"
    ∷ []

-- the bits f g h j of y = 7 where its code of the table would make five equal bits in a row
unfoldable pub alternate_bits : Rd → List ℕ
alternate_bits Minus = codes "0111"
alternate_bits Plus = codes "1000"

-- the x beside which they are used, by the disparity after the six bits
unfoldable pub alternate_for : Rd → List ℕ
alternate_for Minus = 17 ∷ 18 ∷ 20 ∷ []
alternate_for Plus = 11 ∷ 13 ∷ 14 ∷ []

-- how many digits of a text are 1
unfoldable pub ones_in : List ℕ → ℕ
ones_in text = count_by (λ digit. digit == 49) text

-- a text with each 0 as 1 and each 1 as 0
unfoldable pub complement : List ℕ → List ℕ
complement text = map (λ digit. 97 - digit) text

-- The disparity after a group of bits: positive after more ones than zeros, negative after fewer, and
-- unchanged after as many.
unfoldable pub disparity_past : Rd → List ℕ → Rd
disparity_past rd text =
    if nat_lt (length text) (2 * ones_in text)
    then Plus
    else (if nat_lt (2 * ones_in text) (length text) then Minus else rd)

-- The bits a b c d e i of x: at positive disparity a code with other than three ones, and the code of 7,
-- is complemented.
unfoldable pub six_bits : Rd → ℕ → List ℕ
six_bits Minus x = get_or six_bits_at_minus x []
six_bits Plus x =
    let text = get_or six_bits_at_minus x [] in
    if not (ones_in text == 3) || x == 7 then complement text else text

-- the bits f g h j of y beside x, by the disparity after the six bits
unfoldable pub four_bits : Rd → ℕ → ℕ → List ℕ
four_bits middle x y =
    if y == 7 && list_any (λ k. k == x) (alternate_for middle)
    then alternate_bits middle
    else get_or (four_bits_table middle) y []

-- the ten bits that spell a character, where the comma is K28.5
unfoldable pub spelling : Rd → Char → List ℕ
spelling rd (Octet octet) =
    let six = six_bits rd (octet % 32) in
    six ++ four_bits (disparity_past rd six) (octet % 32) (octet / 32)
spelling Minus Comma = codes "0011111010"
spelling Plus Comma = codes "1100000101"

-- the disparity after a character: that after its four bits, which begin at the disparity after its six
unfoldable pub disparity_after : Rd → Char → Rd
disparity_after rd (Octet octet) =
    let six = six_bits rd (octet % 32) in
    let middle = disparity_past rd six in
    disparity_past middle (four_bits middle (octet % 32) (octet / 32))
disparity_after Minus Comma = Plus
disparity_after Plus Comma = Minus

-- the number whose bits are the digits of a text, the first digit lowest
unfoldable pub number_of : List ℕ → ℕ
number_of [] = 0
number_of (digit ∷ text) = (digit - 48) + 2 * number_of text

-- the symbol of a character, as a number with bit a lowest
unfoldable pub symbol_of : Rd → Char → ℕ
symbol_of rd ch = number_of (spelling rd ch)

-- the comma, or an octet
abbrev pub IsCharacter : Char → Type 0
IsCharacter (Octet octet) = octet < 256
IsCharacter Comma = ⊤

-- at disparity rd the character ch is spelled by the symbol of these bits, and next is the disparity after
pub record Spells (rd : Rd) (ch : Char) (bits : ℕ) (next : Rd) : Type 0 where
  pub character : IsCharacter ch
  pub symbol : bits ≡ symbol_of rd ch
  pub disparity : next ≡ disparity_after rd ch

-- the answer names exactly the character that the symbol spells at rd, with the disparity after it
abbrev pub IsCheckOf : Rd → ℕ → Option (Char × Rd) → Type 0
IsCheckOf rd bits answer = (ch : Char) (next : Rd) → (answer ≡ Some (ch, next)) ↔ (Spells rd ch bits next)

-- The disparity that a symbol's count of ones gives: positive for more than five, negative for fewer, and
-- unchanged for five.
abbrev pub disparity_by_ones : Rd → ℕ → Rd
disparity_by_ones rd bits =
    if nat_lt 5 (count_ones bits) then Plus else (if nat_lt (count_ones bits) 5 then Minus else rd)
