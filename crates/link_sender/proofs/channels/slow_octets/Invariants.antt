use Rattle.std.proofs.Common.{◌≡◌, ◌*◌, ◌<◌, All, length}
use Rattle.hdlc_channel.specs.Bits.{bits_of}
use Rattle.hdlc_channel.specs.SlowStream as slow
use Rattle.link_sender.specs.Channels.{slow_left}
use Rattle.link_sender.proofs.channels.slow_octets.Given as goal

-- The octets so far are the first of the channel.
abbrev pub invariant-loop : goal.invariant-loop
invariant-loop l = record {
  few : length l.octets.items ≡ l.counter;
  bits : bits_of l.octets.items ≡ slow.slow_stream l.initial.writer (8 * l.counter);
  small : All (λ x. x < 256) l.octets.items;
  left : l.writer ≡ slow_left l.counter l.initial.writer;
}
