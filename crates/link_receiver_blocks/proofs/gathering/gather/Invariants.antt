use Rattle.std.proofs.Common.{◌≡◌, ℕ, ◌+◌, ◌<◌, ◌≤◌, take}
use Rattle.link_base.specs.Bits.{bit_of}
use Rattle.plan_checker.specs.Container.{pieces_size}
use Rattle.plan_checker.specs.Place.{iq_bit}
use Rattle.link_receiver_blocks.proofs.gathering.gather.Given as goal

-- The pieces so far are copied, and nothing else was written.
abbrev pub invariant-loop-piece : goal.invariant-loop-piece
invariant-loop-piece l = record {
  reached : l.next ≡ l.at + pieces_size (take l.piece-index l.route);
  copied : (b : ℕ) → b < pieces_size (take l.piece-index l.route) → bit_of l.block (l.at + b) ≡ bit_of l.octets (iq_bit l.route b);
  before : (x : ℕ) → x < l.at → bit_of l.block x ≡ bit_of l.initial.block x;
  after : (x : ℕ) → l.at + pieces_size l.route ≤ x → bit_of l.block x ≡ bit_of l.initial.block x;
}
