use Rattle.std.proofs.Common.{◌≡◌, ℕ, ◌<◌, slice_get, Some}
use Rattle.std.specs.List.{HoldsAt}
use Rattle.carrier_plan.specs.declared.plan.Carrier.{Carrier}
use Rattle.link_base.specs.Bits.{bit_of}
use Rattle.link_sender_blocks.specs.InHand.{after_frame}
use Rattle.link_sender.specs.Containers.{CarriesContainer, IsFree}
use Rattle.link_sender.proofs.Items.{partly}
use Rattle.link_sender.proofs.containers.send_containers.Given as goal

-- The containers of the carriers so far are written.
abbrev pub invariant-loop-c : goal.invariant-loop-c
invariant-loop-c l = record {
  sent : l.carriers ≡ partly after_frame l.c l.initial.carriers;
  containers : (i : ℕ) (carrier : Carrier) → i < l.c → slice_get l.plan.carriers i ≡ Some carrier → HoldsAt (CarriesContainer carrier l.block) l.initial.carriers i;
  free : (x : ℕ) → IsFree l.plan x → bit_of l.block x ≡ bit_of l.initial.block x;
}
