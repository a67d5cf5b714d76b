-- What a sink in memory keeps. This is the project's own.
use Rattle.std.specs.Prelude.{ℕ, List, true}
use Rattle.link_base.specs.Sink.{Taken}

pub record SinkMemory : Type 0 where
  pub written : List ℕ
  -- how many octets can be written in all
  pub room : ℕ
  -- how many are taken in one call at most
  pub piece : ℕ
  pub faults : ℕ

abbrev pub sink_taken : SinkMemory → Taken
sink_taken sink = record { tells = true; written = sink.written; faults = sink.faults }
