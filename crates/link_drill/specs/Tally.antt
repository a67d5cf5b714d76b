-- The entries of a drill, counted. This is the project's own.
use Rattle.std.specs.Prelude.{◌≡◌, List, length}
use Rattle.link_receiver.specs.declared.entry.Entry.{Entry}
use Rattle.link_sender.specs.Stream.{Stream}
use Rattle.link_drill.specs.declared.tally.Tally.{Tally}
use Rattle.link_drill.specs.Summary.{equal_in, marked_in}

-- so many entries, so many of them with their samples' values, and so many marked
pub record IsTally (σ : Stream) (entries : List Entry) (tally : Tally) : Type 0 where
  pub samples : tally.samples ≡ length entries
  pub equal : tally.equal ≡ equal_in σ entries
  pub marked : tally.marked ≡ marked_in entries
