-- Lines as they are printed: each ends with one line feed. This is the project's own.
use Rattle.std.specs.Prelude.{ℕ, List, [], ◌∷◌, ◌++◌}
use Rattle.std.specs.List.{flat_map, range_with_len}

-- a line with its line feed
abbrev pub ended : List ℕ → List ℕ
ended line = line ++ 10 ∷ []

-- a line for each of the first n places
abbrev pub lines_below : (ℕ → List ℕ) → ℕ → List ℕ
lines_below line n = flat_map line (range_with_len 0 n)
