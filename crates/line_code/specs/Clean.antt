-- Symbols of which none is a violation, by their marks. No contract of a public call names it.
use Rattle.std.specs.Prelude.{◌≡◌, ℕ, List, length}
use Rattle.line_code.specs.declared.characters.Rd.{Rd}
use Rattle.line_code.specs.Decoded.{violations_in, disparity_along}
use Rattle.line_code.specs.Tables.{AreMarkedBy}

-- From this disparity on no symbol of sixteen with these marks is a violation, and the disparity after them is this.
abbrev pub IsClean : Rd → ℕ → Rd → Type 0
IsClean rd marks next =
    (symbols : List ℕ) → length symbols ≡ 16 → AreMarkedBy symbols marks
    → (violations_in rd symbols ≡ 0) × (next ≡ disparity_along rd symbols)
