use Rattle.std.proofs.Common.{◌≡◌, ◌*◌, ◌<◌, All, length}
use Rattle.ethernet_channel.specs.FastStream as fast
use Rattle.hdlc_channel.specs.Bits.{bits_of}
use Rattle.link_sender.specs.Channels.{fast_left}
use Rattle.link_sender.proofs.channels.fast_octets.Given as goal

-- The octets so far are the first of the channel.
abbrev pub invariant-loop : goal.invariant-loop
invariant-loop l = record {
  few : length l.octets.items ≡ l.counter;
  bits : bits_of l.octets.items ≡ fast.fast_stream l.initial.writer (8 * l.counter);
  small : All (λ x. x < 256) l.octets.items;
  left : l.writer ≡ fast_left l.counter l.initial.writer;
}
