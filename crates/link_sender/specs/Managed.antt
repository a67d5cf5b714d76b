-- The octets of the management channels in the control words of a run (CPRI Specification V7.0, sections 4.2.7.7.1 and
-- 4.2.7.7.2). That the channels run on from basic frame 0 is this project's own.
use Rattle.std.specs.Prelude.{ℕ, ◌+◌, ◌*◌, nat_lt, List, drop, count_by, sum_by, if◌then◌else◌}
use Rattle.std.specs.List.{range_with_len}
use Rattle.control_words.specs.Places.{is_fast_place, is_slow_place}
use Rattle.control_words.specs.declared.announce.Announce.{Announce}
use Rattle.ethernet_channel.specs.Codes.{idle}
use Rattle.ethernet_channel.specs.FastStream as fast
use Rattle.hdlc_channel.specs.Bits.{octets_of}
use Rattle.hdlc_channel.specs.SlowStream as slow
use Rattle.hdlc_channel.specs.SlowText.{flag}
use Rattle.hyperframe.specs.Numbering.{frame_x}
use Rattle.link_sender.specs.Stream.{Stream}

-- how many octets of a word of Y octets belong to the slow channel, and to the fast one
abbrev pub slow_in_word : ℕ → Announce → ℕ → ℕ
slow_in_word Y a x = count_by (is_slow_place a.hdlc x) (range_with_len 0 Y)

abbrev pub fast_in_word : ℕ → Announce → ℕ → ℕ
fast_in_word Y a x = count_by (λ (y : ℕ). is_fast_place a.pointer x) (range_with_len 0 Y)

-- how many octets of a channel the control words of the frames below n have, by how many each word has
abbrev pub octets_below : (ℕ → ℕ) → ℕ → ℕ
octets_below in_word n = sum_by (λ i. in_word (frame_x i)) (range_with_len 0 n)

-- so many octets of the slow channel from octet k on: a flag, the frames with a flag after each, and flags
abbrev pub slow_octets : Stream → (k count : ℕ) → List ℕ
slow_octets σ k count = octets_of (drop (8 * k) (slow.slow_stream (record { rest = flag; queue = σ.slow }) (8 * (k + count))))

-- so many octets of the fast channel from octet k on: an I, the frames with an I after each, and I
abbrev pub fast_octets : Stream → (k count : ℕ) → List ℕ
fast_octets σ k count = octets_of (drop (8 * k) (fast.fast_stream (record { rest = idle; queue = σ.fast }) (8 * (k + count))))

-- the octets of the channel whose word the control word of frame n is, the next ones after those of the frames below; no word
-- belongs to both channels
unfoldable pub managed : ℕ → Stream → ℕ → List ℕ
managed Y σ n =
    if nat_lt 0 (slow_in_word Y σ.announcement (frame_x n))
    then slow_octets σ (octets_below (slow_in_word Y σ.announcement) n) (slow_in_word Y σ.announcement (frame_x n))
    else fast_octets σ (octets_below (fast_in_word Y σ.announcement) n) (fast_in_word Y σ.announcement (frame_x n))
