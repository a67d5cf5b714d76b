use Rattle.std.proofs.Common.{◌≡◌}
use Rattle.plan_checker.specs.Container.{pieces_size}
use Rattle.link_receiver_blocks.specs.Containers.{container_bits}
use Rattle.container_tests.proofs.played_blocks.check_plays.Given as goal

abbrev pub invariant-loop-frame : goal.invariant-loop-frame
invariant-loop-frame g l = pieces_size l.route ≡ container_bits l.block.mapping
