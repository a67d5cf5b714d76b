-- The octets of a word of a basic frame at the line bit rate options 1 to 7 (CPRI Specification V7.0, section 4.2.7.1).
use Rattle.std.specs.Prelude.{ℕ, Bool, ◌==◌, ◌||◌, IsTrue}

-- whether y is one of the seven word sizes
abbrev pub is_word_size : ℕ → Bool
is_word_size y = y == 1 || y == 2 || y == 4 || y == 5 || y == 8 || y == 10 || y == 16

abbrev pub IsWordSize : ℕ → Type 0
IsWordSize y = IsTrue (is_word_size y)
