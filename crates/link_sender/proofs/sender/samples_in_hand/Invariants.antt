use Rattle.std.proofs.Common.{◌≡◌, map, take}
use Rattle.carrier_plan.specs.declared.plan.Carrier.{Carrier}
use Rattle.link_sender_blocks.specs.Containers.{mapping_of}
use Rattle.link_sender_blocks.specs.InHand.{begun}
use Rattle.link_sender.proofs.sender.samples_in_hand.Given as goal

-- those of the first carriers
abbrev pub invariant-loop-carrier : goal.invariant-loop-carrier
invariant-loop-carrier l = l.hands.items ≡ map (λ (carrier : Carrier). begun (mapping_of carrier)) (take l.carrier-index l.carriers)
