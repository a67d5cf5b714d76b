use Rattle.std.proofs.Common.{◌≡◌, ℕ, ◌<◌, ◌≤◌, length, get_or}
use Rattle.link_receiver.specs.Playing.{Plays, octets_in_hand}
use Rattle.link_receiver.specs.declared.carrier_in_hand.CarrierInHand.{CarrierInHand}
use Rattle.link_receiver.proofs.playing.play_carriers.Given as goal

-- the first carriers have played the frame, and the others not yet
abbrev pub invariant-loop-c : goal.invariant-loop-c
invariant-loop-c l =
    (length l.carriers ≡ length l.initial.carriers)
    × ((i : ℕ) (d : CarrierInHand) → i < l.c → Plays (get_or l.initial.carriers i d) (get_or l.carriers i d) (octets_in_hand l.plan l.flows (get_or l.initial.carriers i d).flow l.n) l.n l.run_ticks)
    × ((i : ℕ) (d : CarrierInHand) → l.c ≤ i → get_or l.carriers i d ≡ get_or l.initial.carriers i d)
