-- The numbers that the program ends with. They are this project's own.
use Rattle.std.specs.Prelude.{ℕ}
use Rattle.link_run_feed.specs.declared.status.Status.{Status}
use Rattle.link_run_feed.specs.declared.status.Status.TheVariants.{Done, No, Usage, PlanText, FeedBad, ReadFault, WriteFault, NoMemory}

abbrev pub code_of : Status → ℕ
code_of Done = 0
code_of (No rule item) = 1
code_of Usage = 2
code_of (PlanText fault) = 3
code_of (FeedBad line reason) = 4
code_of ReadFault = 5
code_of WriteFault = 6
code_of NoMemory = 7
