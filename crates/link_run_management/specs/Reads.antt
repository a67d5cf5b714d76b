-- What a reader of the management channels keeps of the control words that it was handed. This is the project's own.
use Rattle.std.specs.Prelude.{◌≡◌, ℕ, ◌%◌, ◌≤◌, ◌<◌, nat_lt, Bool, List, length, Option}
use Rattle.control_words.specs.declared.announce.Announce.{Announce}
use Rattle.ethernet_channel.specs.Keeps.{Kept, StandsFor as FastStandsFor}
use Rattle.hdlc_channel.specs.Bits.{bits_of}
use Rattle.hdlc_channel.specs.Reader.{SlowView, StandsFor as SlowStandsFor}
use Rattle.link_run_management.specs.Management.{octets_so_far, slow_places, fast_places}
use Rattle.link_run_management.specs.declared.places.Carried.{Carried}
use Rattle.link_run_management.specs.declared.places.Carried.TheVariants.{Slow, Fast, Neither}

pub record ReaderView : Type 0 where
  -- the octets of a control word
  pub width : ℕ
  pub announce : Announce
  -- the place of the next frame in its hyperframe
  pub x : ℕ
  pub slow : SlowView
  pub fast : Kept

-- The reader was handed the control words of the first frames of a run, none for a frame that is missed.
pub record StandsFor (v : ReaderView) (words : List (Option (List ℕ))) : Type 0 where
  pub place : v.x ≡ length words % 256
  pub slow : SlowStandsFor v.slow (bits_of (octets_so_far (slow_places v.announce) v.width words))
  pub fast : FastStandsFor v.fast (bits_of (octets_so_far (fast_places v.announce) v.width words))

-- of the octets of the control word of place x, the first so many belong to a channel, and no others
pub record IsFront (is_place : ℕ → ℕ → Bool) (width x count : ℕ) : Type 0 where
  pub fits : count ≤ width
  pub first : (y : ℕ) → y < width → is_place x y ≡ nat_lt y count

-- how many octets of the control word of place x belong to each channel
pub record Carries (a : Announce) (width x slow_count fast_count : ℕ) : Type 0 where
  pub slow : IsFront (slow_places a) width x slow_count
  pub fast : IsFront (fast_places a) width x fast_count

abbrev pub IsCarried : Announce → (width x : ℕ) → Carried → Type 0
IsCarried a width x (Slow count) = (0 < count) × Carries a width x count 0
IsCarried a width x (Fast count) = (0 < count) × Carries a width x 0 count
IsCarried a width x Neither = Carries a width x 0 0
