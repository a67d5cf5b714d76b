-- How the bits that are not yet written are kept. This is the project's own.
use Rattle.std.specs.Prelude.{◌≡◌, ℕ, suc, ◌+◌, ◌-◌, ◌*◌, ◌^◌, ◌<◌, ◌≤◌, ◌==◌, nat_lt, if◌then◌else◌, Bool, true, false, List, [], ◌∷◌, ◌++◌, length, take, drop, sum_by, All}
use Rattle.hdlc_channel.specs.Bits.{octet_bits, bits_of, number_of}
use Rattle.hdlc_channel.specs.SlowText.{flag}
use Rattle.hdlc_channel.specs.SlowStream.{Channel, stuffed, content_of, next_item}

-- the 1s in a row after bits that are stuffed, after so many before them
unfoldable pub ones_after : ℕ → List Bool → ℕ
ones_after ones [] = ones
ones_after ones (false ∷ bits) = ones_after 0 bits
ones_after ones (true ∷ bits) = if ones == 4 then ones_after 0 bits else ones_after (suc ones) bits

-- the bits that are laid out for the line, and those behind them
pub record OutView : Type 0 where
  pub ready : List Bool
  pub later : List Bool

-- octets of a content after so many 1s in a row, and the flag behind them, where any octets are left
unfoldable pub later_bits : ℕ → List ℕ → List Bool
later_bits ones [] = []
later_bits ones (x ∷ octets) = stuffed ones (bits_of (x ∷ octets)) ++ flag

abbrev pub out_view : List Bool → ℕ → List ℕ → ℕ → ℕ → OutView
out_view ready ones octets at end = record { ready = ready; later = later_bits ones (drop at (take end octets)) }

pub record IsOut (ready : List Bool) (ones : ℕ) (octets : List ℕ) (at end : ℕ) : Type 0 where
  pub few : length ready ≤ 25
  pub few_ones : ones ≤ 4
  pub room : length octets ≡ 1502
  pub left : at ≤ end
  pub within : end ≤ 1502

pub record IsLaid (bits len : ℕ) : Type 0 where
  pub small : bits < 2 ^ len
  pub few : len ≤ 25

-- an octet as the table has it: its stuffed bits, how many were put in, and the 1s in a row after it
unfoldable pub stuffed_entry : ℕ → ℕ → ℕ
stuffed_entry ones octet =
    let bits = stuffed ones (octet_bits octet) in
    number_of bits + 1024 * (length bits - 8) + 4096 * ones_after ones (octet_bits octet)

-- frames, whose octets stand one after another, by their lengths
unfoldable pub cut : List ℕ → List ℕ → List (List ℕ)
cut [] octets = []
cut (n ∷ lengths) octets = take n octets ∷ cut lengths (drop n octets)

pub record IsQueue (lengths octets : List ℕ) (most_lengths most_octets : ℕ) : Type 0 where
  pub whole : sum_by (λ n. n) lengths ≡ length octets
  pub fits : length octets + 2 * length lengths ≤ 8192
  pub each : All (λ n. n ≤ 1500) lengths
  pub lengths_room : most_lengths ≡ 4096
  pub octets_room : most_octets ≡ 8192

-- The oldest frame's content is the first n of these octets, and the other frames are left.
pub record IsContentOfFirst (old new : List (List ℕ)) (octets : List ℕ) (n : ℕ) : Type 0 where
  pub frame : List ℕ
  pub first : old ≡ frame ∷ new
  pub content : take n octets ≡ content_of frame
  pub some : 1 ≤ n
  pub within : n ≤ 1502

-- what is not yet written
abbrev pub channel_of : OutView → List (List ℕ) → Channel
channel_of out queue = record { rest = out.ready ++ out.later; queue = queue }

-- the same, with the next item begun where fewer than eight bits are left of the last one
unfoldable pub filled : Channel → Channel
filled c = if nat_lt (length c.rest) 8 then record { rest = c.rest ++ next_item c.queue; queue = drop 1 c.queue } else c
