use Rattle.std.proofs.Common.{◌≡◌}
use Rattle.text_tests.proofs.management.compare.Given as goal

abbrev pub invariant-loop-n : goal.invariant-loop-n
invariant-loop-n g l = l.reader.width ≡ g.row.Y
