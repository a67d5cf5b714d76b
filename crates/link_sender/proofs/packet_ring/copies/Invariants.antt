use Rattle.std.proofs.Common.{◌≡◌, ℕ, ◌*◌, ◌<◌, length, take, drop}
use Rattle.link_sender.proofs.packet_ring.copies.Given as goal

-- so many copies stand one after another
abbrev pub invariant-loop : goal.invariant-loop
invariant-loop l = record {
  count : length l.all.items ≡ l.counter * length l.octets;
  each : (j : ℕ) → j < l.counter → take (length l.octets) (drop (j * length l.octets) l.all.items) ≡ l.octets;
}
