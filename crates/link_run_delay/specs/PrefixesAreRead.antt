-- What is read of the first octets of the management channels of a stream: the frames that are whole in them, and nothing else. A
-- slow frame is whole with the last bit of the flag that closes it (ISO/IEC 13239, frame structure), and a fast one with the last
-- bit of its group R (IEEE 802.3 clause 24.2.2.1).
use Rattle.std.specs.Prelude.{◌≡◌, ℕ, suc, ◌+◌, ◌-◌, ◌&&◌, nat_le, nat_lt, Bool, List, [], ◌∷◌, length, map, filter, All, Option, Some, None}
use Rattle.ethernet_channel.specs.Codes.{idle}
use Rattle.ethernet_channel.specs.Events.{Found, events_at}
use Rattle.ethernet_channel.specs.FastStream as fast
use Rattle.ethernet_channel.specs.Written.{whole_frame}
use Rattle.hdlc_channel.specs.Bits.{bits_of}
use Rattle.hdlc_channel.specs.SlowLaw.{Answer, slow_answers}
use Rattle.hdlc_channel.specs.SlowStream as slow
use Rattle.hdlc_channel.specs.SlowText.{flag}
use Rattle.hdlc_channel.specs.declared.slow_event.SlowEvent.TheVariants.{Frame}
use Rattle.link_sender.specs.Stream.{Stream}
use Rattle.link_run_delay.specs.ChannelsArePrefixes.{AreFirstFast, AreFirstSlow}

-- ---- where frames are whole

-- a frame, and the place of the bit with which it is whole
pub record Ending : Type 0 where
  pub at : ℕ
  pub frame : List ℕ

-- Where frames are whole that follow one another from place p on: each is written in these bits, of which so many stand behind the
-- one with which it is whole.
unfoldable pub endings : (List ℕ → List Bool) → (behind p : ℕ) → List (List ℕ) → List Ending
endings bits behind p [] = []
endings bits behind p (frame ∷ frames) =
    record { at = p + length (bits frame) - suc behind; frame = frame } ∷ endings bits behind (p + length (bits frame)) frames

-- the slow frames of a stream, behind its first flag: of each the closing flag comes last
abbrev pub slow_endings : Stream → List Ending
slow_endings σ = endings slow.frame_bits 0 (length flag) σ.slow

-- the fast frames, behind the first I: after the R of each comes one I
abbrev pub fast_endings : Stream → List Ending
fast_endings σ = endings fast.frame_bits (length idle) (length idle) σ.fast

-- those that are whole with a bit from one place on, as far as below another
abbrev pub between : (from to : ℕ) → List Ending → List Ending
between from to all = filter (λ e. nat_le from e.at && nat_lt e.at to) all

-- ---- what is read

-- the answer of the reader of the slow channel to a frame
abbrev pub slow_answer : Ending → Answer
slow_answer e = record { at = e.at; event = Frame; frame = e.frame }

-- what is found at a place
pub record Place : Type 0 where
  pub at : ℕ
  pub found : Found

-- what is found at bits, the first of which stands at place p
unfoldable pub places : ℕ → List (Option Found) → List Place
places p [] = []
places p (None ∷ more) = places (suc p) more
places p (Some found ∷ more) = record { at = p; found = found } ∷ places (suc p) more

-- a frame of the fast channel that is found
abbrev pub fast_place : Ending → Place
fast_place e = record { at = e.at; found = whole_frame e.frame }

-- Of these octets the frames that are whole in their bits are read, each at its place, and nothing else.
abbrev pub SlowIsRead : Stream → List ℕ → Type 0
SlowIsRead σ octets =
    let bits = bits_of octets in slow_answers bits (length bits) ≡ map slow_answer (between 0 (length bits) (slow_endings σ))

abbrev pub FastIsRead : Stream → List ℕ → Type 0
FastIsRead σ octets =
    let bits = bits_of octets in places 0 (events_at bits) ≡ map fast_place (between 0 (length bits) (fast_endings σ))

-- whatever the stream, of any number of its first octets
pub record PrefixesAreRead : Type 0 where
  pub slow : (σ : Stream) (octets : List ℕ) → All slow.IsFrame σ.slow → AreFirstSlow σ octets → SlowIsRead σ octets
  pub fast : (σ : Stream) (octets : List ℕ) → All fast.IsFrame σ.fast → AreFirstFast σ octets → FastIsRead σ octets
