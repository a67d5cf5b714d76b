-- The samples in hand of a carrier, which are sent a block after they were handed in. That a block is sent in the frames of the
-- next block, and the silence before the first block and after the last sample, are this project's own.
use Rattle.std.specs.Prelude.{ℕ, ◌≡◌, ◌+◌, ◌-◌, ◌*◌, ◌<◌, ◌≤◌, ◌==◌, List, [], ◌++◌, length, replicate, pos, if◌then◌else◌}
use Rattle.sample_bits.specs.SampleRate.{IsSampleRate, IsSampleWidth}
use Rattle.sample_bits.specs.declared.iq.RawIq.{RawIq}
use Rattle.link_sender_blocks.specs.declared.mapping.Mapping.{Mapping}
use Rattle.link_sender_blocks.specs.Containers.{container_bits}

-- what contracts see
pub record SamplesView : Type 0 where
  pub mapping : Mapping
  -- the samples that were handed in of the block whose turn it is
  pub taken : List RawIq
  -- the samples of the block before it, which are sent
  pub sent : List RawIq
  -- how many of the frames that carry them were sent
  pub phase : ℕ

-- so many samples that are 0
abbrev pub silence : ℕ → List RawIq
silence n = replicate n (record { i = pos 0; q = pos 0 })

-- before any sample is handed in
abbrev pub begun : Mapping → SamplesView
begun w = record { mapping = w; taken = []; sent = silence w.s; phase = 0 }

-- after one frame more: with the last frame of a block the turn comes to the next one
abbrev pub after_frame : SamplesView → SamplesView
after_frame h =
    if h.phase + 1 == h.mapping.k
    then record { mapping = h.mapping; taken = []; sent = h.taken ++ silence (h.mapping.s - length h.taken); phase = 0 }
    else record { mapping = h.mapping; taken = h.taken; sent = h.sent; phase = h.phase + 1 }

-- what holds of the fields
pub record IsInHand (w : Mapping) (block : List RawIq) (taken : ℕ) (sent : List RawIq) (phase : ℕ) (container : List ℕ) : Type 0 where
  pub rate : IsSampleRate w.s w.k
  pub width : IsSampleWidth w.m
  pub block_size : length block ≡ w.s
  pub within : taken ≤ w.s
  pub sent_size : length sent ≡ w.s
  pub under_way : phase < w.k
  pub room : container_bits w ≤ 8 * length container
