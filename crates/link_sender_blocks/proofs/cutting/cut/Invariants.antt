use Rattle.std.proofs.Common.{◌≡◌, ℕ, ◌<◌, take}
use Rattle.link_base.specs.Bits.{bit_of}
use Rattle.plan_checker.specs.Container.{pieces_size}
use Rattle.plan_checker.specs.Place.{iq_bit}
use Rattle.link_sender_blocks.proofs.cutting.cut.Given as goal

-- The pieces so far are written, and nothing else was.
abbrev pub invariant-loop-piece : goal.invariant-loop-piece
invariant-loop-piece l = record {
  reached : l.next ≡ pieces_size (take l.piece-index l.pieces);
  copied : (b : ℕ) → b < pieces_size (take l.piece-index l.pieces) → bit_of l.octets (iq_bit l.pieces b) ≡ bit_of l.container b;
  others : (k : ℕ) → ((b : ℕ) → b < pieces_size (take l.piece-index l.pieces) → ¬ (k ≡ iq_bit l.pieces b)) → bit_of l.octets k ≡ bit_of l.initial.octets k;
}
