-- The symbols of a run of basic frames on the line (CPRI Specification V7.0 section 4.2: the sync byte
-- K28.5 begins a hyperframe, and each other octet is a data character).
use Rattle.std.specs.Prelude.{ℕ, ◌+◌, ◌%◌, ◌<◌, ⊤, ◌==◌, if◌then◌else◌, List, [], ◌∷◌, ◌++◌, map, All, Option, Some, None}
use Rattle.line_code.specs.declared.characters.Char.{Char}
use Rattle.line_code.specs.declared.characters.Char.TheVariants.{Octet, Comma}
use Rattle.line_code.specs.declared.characters.Rd.{Rd}
use Rattle.line_code.specs.declared.characters.Rd.TheVariants.{Minus}
use Rattle.line_code.specs.Code.{symbol_of, disparity_after, disparity_by_ones, IsCheckOf}

-- The characters of the octets of frame n: the first is the comma where X = n mod 256 is 0, and every
-- other is the octet.
abbrev pub frame_characters : ℕ → List ℕ → List Char
frame_characters n [] = []
frame_characters n (first ∷ rest) = (if n % 256 == 0 then Comma else Octet first) ∷ map Octet rest

-- the characters of frames, the first of which is number n
abbrev pub characters_from : ℕ → List (List ℕ) → List Char
characters_from n [] = []
characters_from n (frame ∷ frames) = frame_characters n frame ++ characters_from (n + 1) frames

-- the symbols in which characters are spelled one after another, from disparity rd on
abbrev pub symbols_of : Rd → List Char → List ℕ
symbols_of rd [] = []
symbols_of rd (ch ∷ chars) = symbol_of rd ch ∷ symbols_of (disparity_after rd ch) chars

-- the disparity after characters
abbrev pub disparity_after_all : Rd → List Char → Rd
disparity_after_all rd [] = rd
disparity_after_all rd (ch ∷ chars) = disparity_after_all (disparity_after rd ch) chars

-- the symbols of the frames of a run, whose line starts at negative disparity
abbrev pub line_symbols : List (List ℕ) → List ℕ
line_symbols frames = symbols_of Minus (characters_from 0 frames)

-- every number of a frame is an octet
abbrev pub IsFrame : List ℕ → Type 0
IsFrame frame = All (λ octet. octet < 256) frame

-- What `check` answers along a line of symbols: at rd for the first, and then at the disparity that the
-- last answer gave, or after None at the one that the symbol's ones give.
abbrev pub ChecksAlong : Rd → List ℕ → List (Option Char) → Type 0
ChecksAlong rd [] [] = ⊤
ChecksAlong rd (bits ∷ symbols) (Some ch ∷ answers) =
    (next : Rd) × IsCheckOf rd bits (Some (ch, next)) × ChecksAlong next symbols answers
ChecksAlong rd (bits ∷ symbols) (None ∷ answers) =
    IsCheckOf rd bits None × ChecksAlong (disparity_by_ones rd bits) symbols answers
ChecksAlong rd [] (answer ∷ answers) = ⊥
ChecksAlong rd (bits ∷ symbols) [] = ⊥
