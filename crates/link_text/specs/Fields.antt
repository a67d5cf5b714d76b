-- The fields of a line. One space separates two of them. This is the project's own.
use Rattle.std.specs.Prelude.{ℕ, ◌+◌, ◌==◌, Bool, List, take, drop, Option, Some, None}
use Rattle.std.specs.List.{slice_split, position}

abbrev pub is_space : ℕ → Bool
is_space c = c == 32

abbrev pub cut_at : List ℕ → Option ℕ → Option (List ℕ × List ℕ)
cut_at line None = None
cut_at line (Some place) = Some (take place line, drop (place + 1) line)

-- the text before the first space and the text after it, if there is a space
abbrev pub at_first_space : List ℕ → Option (List ℕ × List ℕ)
at_first_space line = cut_at line (position is_space line)

-- all fields
abbrev pub fields_of : List ℕ → List (List ℕ)
fields_of line = slice_split is_space line
