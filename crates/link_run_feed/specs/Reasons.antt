-- The line that is printed where a feed is refused. This is the project's own.
use Rattle.std.specs.Prelude.{codes, decimal, ℕ, List, [], ◌∷◌, ◌++◌}
use Rattle.link_run_feed.specs.declared.reason.Reason.{Reason}
use Rattle.link_run_feed.specs.declared.reason.Reason.TheVariants.{Header, Number, Hex, Order, Range, Count, Many, Word, Long, Unended, After}

abbrev pub reason_word : Reason → List ℕ
reason_word Header = codes "header"
reason_word Number = codes "number"
reason_word Hex = codes "hex"
reason_word Order = codes "order"
reason_word Range = codes "range"
reason_word Count = codes "count"
reason_word Many = codes "many"
reason_word Word = codes "word"
reason_word Long = codes "long"
reason_word Unended = codes "unended"
reason_word After = codes "after"

-- which line is the first bad one, and why
unfoldable pub bad_line : ℕ → Reason → List ℕ
bad_line line reason = codes "bad " ++ decimal line ++ codes " " ++ reason_word reason ++ 10 ∷ []
