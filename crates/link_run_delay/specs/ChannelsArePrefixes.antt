-- The octets of the management channels in the control words of a stream are the first octets of what its channels write. This
-- is the project's own.
use Rattle.std.specs.Prelude.{◌≡◌, ℕ, Bool, List, length}
use Rattle.std.specs.List.{flat_map, range_with_len}
use Rattle.hyperframe.specs.Numbering.{frame_x}
use Rattle.link_run_management.specs.Management.{octets_in, slow_places, fast_places}
use Rattle.link_sender.specs.Managed.{slow_octets, fast_octets}
use Rattle.link_sender.specs.Stream.{Stream}
use Rattle.link_run_delay.specs.ControlIsSent.{sent_word}

-- the octets at the places of a channel in the control words of the frames below n, one after another
abbrev pub sent_octets : (ℕ → ℕ → Bool) → ℕ → Stream → ℕ → List ℕ
sent_octets is_place Y σ n = flat_map (λ i. octets_in is_place (frame_x i) (sent_word Y σ i)) (range_with_len 0 n)

-- the octets are the first ones of the slow channel of a stream, or of the fast one
abbrev pub AreFirstSlow : Stream → List ℕ → Type 0
AreFirstSlow σ octets = octets ≡ slow_octets σ 0 (length octets)

abbrev pub AreFirstFast : Stream → List ℕ → Type 0
AreFirstFast σ octets = octets ≡ fast_octets σ 0 (length octets)

-- of the control words of the frames below n, of Y octets each
pub record ArePrefixes (Y : ℕ) (σ : Stream) (n : ℕ) : Type 0 where
  pub slow : AreFirstSlow σ (sent_octets (slow_places σ.announcement) Y σ n)
  pub fast : AreFirstFast σ (sent_octets (fast_places σ.announcement) Y σ n)

-- whatever the stream
abbrev pub ChannelsArePrefixes : Type 0
ChannelsArePrefixes = (Y : ℕ) (σ : Stream) (n : ℕ) → ArePrefixes Y σ n
