use Rattle.std.proofs.Common.{◌≡◌, Some, slice_get}
use Rattle.carrier_plan.specs.declared.plan.Flow.{Flow}
use Rattle.link_sender.specs.Rings.{IsRing}
use Rattle.link_sender.proofs.Items.{Fills}
use Rattle.link_sender.proofs.packets.packet_rings.Given as goal

-- the slots of the first flows
abbrev pub invariant-loop-f : goal.invariant-loop-f
invariant-loop-f l = Fills (λ i ring. (f : Flow) → slice_get l.checked.flows i ≡ Some f → IsRing l.checked f ring) l.f l.rings.items
