-- The samples of a drill as a stream: they are drawn by tick, then carrier, then number, four a tick and carrier. This is the
-- project's own.
use Rattle.std.specs.Prelude.{ℕ, ◌+◌, ◌*◌, ◌/◌, ◌%◌, List, [], map, pos, slice_index_or}
use Rattle.std.specs.List.{range_with_len}
use Rattle.control_words.specs.declared.announce.Announce.{Announce}
use Rattle.link_sender.specs.Stream.{Stream}
use Rattle.sample_bits.specs.declared.iq.RawIq.{RawIq}

-- where sample j of carrier c of Y carriers stands among all samples
abbrev pub drawn_place : (Y c j : ℕ) → ℕ
drawn_place Y c j = 4 * (j / 4 * Y + c) + j % 4

-- the first samples of carrier c of Y carriers
abbrev pub carrier_samples : (Y : ℕ) → List RawIq → (c count : ℕ) → List RawIq
carrier_samples Y drawn c count = map (λ j. slice_index_or drawn (drawn_place Y c j) (record { i = pos 0; q = pos 0 })) (range_with_len 0 count)

-- no management channels
abbrev pub drill_announcement : Announce
drill_announcement = record { version = 1; hdlc = 0; pointer = 0; l1 = 0 }

-- the samples of h ticks
unfoldable pub drill_stream : (Y h : ℕ) → List RawIq → Stream
drill_stream Y h drawn = record {
  samples = map (λ c. carrier_samples Y drawn c (4 * h)) (range_with_len 0 Y);
  announcement = drill_announcement;
  slow = [];
  fast = [];
}
