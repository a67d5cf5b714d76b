-- What a reader of the fast channel keeps of a list of bits.
use Rattle.std.specs.Prelude.{◌≡◌, ℕ, ◌%◌, ◌<◌, Bool, List, [], ◌∷◌, ◌++◌, map, length, replicate, All, Some, None}
use Rattle.ethernet_channel.specs.declared.reader.Step.{Step}
use Rattle.ethernet_channel.specs.declared.reader.Step.TheVariants.{Hunting, Preamble, Data, End}
use Rattle.ethernet_channel.specs.Codes.{number, code_of, five, delimiter, terminate, groups}
use Rattle.ethernet_channel.specs.Events.{octets_of, first_answer, after_start, read, events_at, last_frame}

-- where the reader is, the last ten bits, how many of them are a part of a group, the nibbles 5 of the preamble, the
-- nibbles of the frame so far, and those of the last frame
pub record Kept : Type 0 where
  pub step : Step
  pub recent : ℕ
  pub bits : ℕ
  pub fives : ℕ
  pub nibbles : List ℕ
  pub frame : List ℕ

-- the bits after the whole groups of five
abbrev pub part_of_group : List Bool → List Bool
part_of_group (a ∷ b ∷ c ∷ d ∷ e ∷ bits) = part_of_group bits
part_of_group bits = bits

-- the groups since J K, by the step
abbrev pub preamble_groups : Kept → List ℕ
preamble_groups k = replicate k.fives five

abbrev pub data_groups : Kept → List ℕ
data_groups k = preamble_groups k ++ delimiter ∷ map code_of k.nibbles

abbrev pub groups_at : Step → Kept → List ℕ
groups_at Hunting k = []
groups_at Preamble k = preamble_groups k
groups_at Data k = data_groups k
groups_at End k = data_groups k ++ terminate ∷ []

-- a frame that began, with the bits since J K, at which there was no event
pub record IsWithin (k : Kept) (since : List Bool) : Type 0 where
  pub rest : List Bool
  pub began : after_start since ≡ Some rest
  pub part : k.bits ≡ length (part_of_group rest)
  pub whole : groups rest ≡ groups_at k.step k
  pub silent : first_answer [] (groups rest) ≡ None

-- each nibble that is kept is one
abbrev pub AreNibbles : List ℕ → Type 0
AreNibbles nibbles = All (λ nibble. nibble < 16) nibbles

-- no frame has begun, or this much of one is kept
abbrev pub IsAt : Step → Kept → List Bool → Type 0
IsAt Hunting k since = after_start since ≡ None
IsAt Preamble k since = IsWithin k since
IsAt Data k since = IsWithin k since × AreNibbles k.nibbles
IsAt End k since = IsWithin k since × AreNibbles k.nibbles

-- The reader stands for these bits: it keeps the last ten since the last event, how far the frame is that began since
-- then, and the last frame.
pub record StandsFor (k : Kept) (bits : List Bool) : Type 0 where
  pub recent : k.recent ≡ number (read bits).since % 1024
  pub step : IsAt k.step k (read bits).since
  pub frame : octets_of k.frame ≡ last_frame (events_at bits)
