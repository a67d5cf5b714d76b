-- The line that is printed of a drill. It is this project's own.
use Rattle.std.specs.Prelude.{codes, decimal, ℕ, List, [], ◌∷◌, ◌++◌}
use Rattle.link_drill.specs.declared.summary.Summary.{Summary}
use Rattle.link_drill.specs.Summary.{summary_of}

-- the number, and what it gives
unfoldable pub summary_line : ℕ → Summary → List ℕ
summary_line number summary =
    codes "drill " ++ decimal number ++ codes " option " ++ decimal summary.option ++ codes " samples " ++ decimal summary.samples
    ++ codes " equal " ++ decimal summary.equal ++ codes " marked " ++ decimal summary.marked ++ codes " lost " ++ decimal summary.lost
    ++ codes " repeated " ++ decimal summary.repeated ++ 10 ∷ []

abbrev pub drill_text : ℕ → List ℕ
drill_text number = summary_line number (summary_of number)
