use Rattle.std.proofs.Common.{◌≡◌, ◌≤◌, take}
use Rattle.link_drill.specs.DrillStream.{drill_stream}
use Rattle.link_drill.specs.Summary.{equal_in}
use Rattle.link_drill.proofs.tally.count_equal.Given as goal

-- those of the first entries
abbrev pub invariant-loop-entry : goal.invariant-loop-entry
invariant-loop-entry l = (l.equal ≡ equal_in (drill_stream l.words 256 l.drawn) (take l.entry-index l.entries)) × (l.equal ≤ l.entry-index)
