-- How symbols stand in octets, one bit after another: bit a of the first symbol first, and the lowest bit of each octet first.
-- Five octets have four symbols. This is the project's own.
use Rattle.std.specs.Prelude.{ℕ, ◌+◌, ◌*◌, ◌/◌, ◌%◌, List, [], ◌∷◌, ◌++◌, slice_index}

-- the forty bits of five octets as a number, the first bit lowest
abbrev pub word_of : ℕ → ℕ → ℕ → ℕ → ℕ → ℕ
word_of a b c d e = a + 256 * (b + 256 * (c + 256 * (d + 256 * e)))

-- the four symbols of forty bits
abbrev pub four_symbols : ℕ → List ℕ
four_symbols word = word % 1024 ∷ word / 1024 % 1024 ∷ word / 1048576 % 1024 ∷ word / 1073741824 % 1024 ∷ []

-- the symbols in octets, of which whole groups of five count
unfoldable pub symbols_in : List ℕ → List ℕ
symbols_in (a ∷ b ∷ c ∷ d ∷ e ∷ octets) = four_symbols (word_of a b c d e) ++ symbols_in octets
symbols_in _ = []

-- the forty bits of the five octets from a place on
abbrev pub word_at : List ℕ → ℕ → ℕ
word_at octets at =
    word_of (slice_index octets at) (slice_index octets (at + 1)) (slice_index octets (at + 2)) (slice_index octets (at + 3)) (slice_index octets (at + 4))

-- the sixteen symbols of the twenty octets from a place on
abbrev pub sixteen_symbols : List ℕ → ℕ → List ℕ
sixteen_symbols octets at =
    four_symbols (word_at octets at)
    ++ (four_symbols (word_at octets (at + 5)) ++ (four_symbols (word_at octets (at + 10)) ++ four_symbols (word_at octets (at + 15))))
