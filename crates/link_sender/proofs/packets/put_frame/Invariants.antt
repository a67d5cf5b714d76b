use Rattle.std.proofs.Common.{◌≡◌, ℕ, ◌<◌, ◌≤◌, get_or, Some, slice_get}
use Rattle.carrier_plan.specs.declared.plan.Flow.{Flow}
use Rattle.roe_mappers.specs.Parts.{disparity_after_frame}
use Rattle.link_sender.specs.Rings.{AreRings, PutsPart}
use Rattle.link_sender.specs.declared.packet_ring.PacketRing.{PacketRing}
use Rattle.link_sender.proofs.packets.put_frame.Given as goal

-- the parts of the first flows are written
abbrev pub invariant-loop-f : goal.invariant-loop-f
invariant-loop-f g l = record {
  rings : AreRings l.checked l.rings;
  done : (i : ℕ) (f : Flow) (d : PacketRing) → i < l.f → slice_get l.checked.flows i ≡ Some f → PutsPart l.checked f l.n l.rd l.frame (get_or l.initial.rings i d) (get_or l.rings i d);
  left : (i : ℕ) (d : PacketRing) → l.f ≤ i → get_or l.rings i d ≡ get_or l.initial.rings i d;
  after : 0 < l.f → l.after ≡ disparity_after_frame l.checked.mode l.n l.rd l.frame;
}
