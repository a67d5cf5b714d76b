use Rattle.std.proofs.Common.{◌≡◌, Some, slice_get}
use Rattle.carrier_plan.specs.declared.plan.Flow.{Flow}
use Rattle.link_receiver.specs.Flows.{IsBegunFlow}
use Rattle.link_receiver.proofs.Items.{Fills}
use Rattle.link_receiver.proofs.flow_in_hand.flows_in_hand.Given as goal

-- the first flows stand before the first tick
abbrev pub invariant-loop-f : goal.invariant-loop-f
invariant-loop-f l = Fills (λ i kept. (f : Flow) → slice_get l.checked.flows i ≡ Some f → IsBegunFlow l.checked l.frames f kept) l.f l.kept.items
