-- The management channels, octet after octet (CPRI Specification V7.0, sections 4.2.7.7.1 and 4.2.7.7.2).
use Rattle.std.specs.Prelude.{ℕ, zero, suc, ◌*◌, nat_lt, List, if◌then◌else◌}
use Rattle.control_words.specs.declared.announce.Announce.{Announce}
use Rattle.ethernet_channel.specs.FastStream as fast
use Rattle.hdlc_channel.specs.Bits.{octets_of}
use Rattle.hdlc_channel.specs.SlowStream as slow
use Rattle.link_sender.specs.Managed.{fast_in_word, slow_in_word}

-- the next octets of a channel, where no more frames are queued
unfoldable pub slow_next : ℕ → slow.Channel → List ℕ
slow_next count channel = octets_of (slow.slow_stream channel (8 * count))

unfoldable pub fast_next : ℕ → fast.Channel → List ℕ
fast_next count channel = octets_of (fast.fast_stream channel (8 * count))

-- what is not yet written after so many octets
unfoldable pub slow_left : ℕ → slow.Channel → slow.Channel
slow_left zero channel = channel
slow_left (suc count) channel = slow_left count (slow.after_eight channel)

unfoldable pub fast_left : ℕ → fast.Channel → fast.Channel
fast_left count channel = fast.after_bits (8 * count) channel

-- the octets of the channel whose word of Y octets word x is
abbrev pub managed_next : ℕ → Announce → ℕ → slow.Channel → fast.Channel → List ℕ
managed_next Y a x slow_channel fast_channel =
    if nat_lt 0 (slow_in_word Y a x) then slow_next (slow_in_word Y a x) slow_channel else fast_next (fast_in_word Y a x) fast_channel
