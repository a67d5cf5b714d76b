use Rattle.std.proofs.Common.{List, [], ap, ◌∙◌}
use Rattle.link_receiver_blocks.specs.declared.mapping.Mapping.{Mapping}
use Rattle.link_receiver_blocks.specs.Containers.{Container}
use Rattle.link_receiver_blocks.specs.View.{BlockView}
use Rattle.link_receiver_blocks.proofs.HeldLemmas.{containers_held-none}
use Rattle.link_receiver_blocks.proofs.block.BlockInHand.begin.Goals as goal

shown : Mapping → List Container → BlockView
shown mapping containers = record { mapping = mapping; containers = containers }

pub returns : goal.returns
unfolding shown
returns c =
    ap (shown c.of-mapping.result) (containers_held-none c.size-size.result c.in_ok-vec.field-0.items 0)
    ∙ ap (λ mapping. shown mapping []) c.of-mapping.ensures
