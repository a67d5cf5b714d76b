use Rattle.std.proofs.Common.{◌≡◌, Some, slice_get}
use Rattle.carrier_plan.specs.declared.plan.Carrier.{Carrier}
use Rattle.link_receiver.specs.Sessions.{IsBegunCarrier}
use Rattle.link_receiver.proofs.Items.{Fills}
use Rattle.link_receiver.proofs.carrier_in_hand.carriers_in_hand.Given as goal

-- the first carriers stand before the first tick
abbrev pub invariant-loop-c : goal.invariant-loop-c
invariant-loop-c l = Fills (λ i kept. (carrier : Carrier) → slice_get l.checked.carriers i ≡ Some carrier → IsBegunCarrier l.checked i carrier kept) l.c l.kept.items
