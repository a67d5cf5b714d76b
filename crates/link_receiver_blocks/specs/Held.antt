-- How the fields of a block in hand stand for its containers. This project's own.
use Rattle.std.specs.Prelude.{ℕ, ◌≡◌, ◌+◌, ◌*◌, ◌^◌, ◌<◌, ◌≤◌, ◌==◌, Bool, List, length, map, Some, None, if◌then◌else◌}
use Rattle.std.specs.Int.{bit_at}
use Rattle.std.specs.List.{list_any, range_with_len}
use Rattle.link_base.specs.Bits.{bit_of}
use Rattle.sample_bits.specs.SampleRate.{IsSampleRate, IsSampleWidth}
use Rattle.link_receiver_blocks.specs.declared.mapping.Mapping.{Mapping}
use Rattle.link_receiver_blocks.specs.Containers.{Container, container_bits, place_of_bit, samples_left}

-- The container of a frame of the block, or none where the frame's bit of the mask is 1. The containers, of so many bits
-- each, stand one after another from bit 0 of the octets on.
abbrev pub container_held : ℕ → List ℕ → ℕ → ℕ → Container
container_held size octets missed phase = if bit_at missed phase == 1 then None else Some (map (λ b. bit_of octets (phase * size + b)) (range_with_len 0 size))

-- those of the first n frames
unfoldable pub containers_held : ℕ → List ℕ → ℕ → ℕ → List Container
containers_held size octets missed n = map (container_held size octets missed) (range_with_len 0 n)

-- whether a bit of sample r of the block stands in a frame whose bit of the mask is 1
unfoldable pub is_missed : Mapping → ℕ → ℕ → Bool
is_missed w missed r = list_any (λ b. bit_at missed (place_of_bit w r b).phase == 1) (range_with_len 0 (2 * w.m))

-- what holds of the fields of a block in hand
pub record IsBlock (w : Mapping) (size : ℕ) (left octets : List ℕ) (played missed : ℕ) : Type 0 where
  pub rate : IsSampleRate w.s w.k
  pub width : IsSampleWidth w.m
  pub sized : size ≡ container_bits w
  pub counted : left ≡ map (samples_left w) (range_with_len 0 (w.k + 1))
  pub room : w.k * size ≤ 8 * length octets
  pub under_way : played < w.k
  pub no_later : missed < 2 ^ played
