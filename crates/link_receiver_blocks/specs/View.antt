-- What contracts see of a block in hand. This project's own.
use Rattle.std.specs.Prelude.{List}
use Rattle.link_receiver_blocks.specs.declared.mapping.Mapping.{Mapping}
use Rattle.link_receiver_blocks.specs.Containers.{Container}

pub record BlockView : Type 0 where
  pub mapping : Mapping
  -- those of the block that is not whole yet
  pub containers : List Container
