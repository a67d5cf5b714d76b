-- What a writer keeps of the item that it is within. No contract of a public call names it.
use Rattle.std.specs.Prelude.{◌≡◌, ℕ, zero, suc, ◌+◌, ◌≤◌, Bool, true, false, List, [], ◌∷◌, ◌++◌, length, flat_map}
use Rattle.ethernet_channel.specs.Codes.{idle}
use Rattle.ethernet_channel.specs.FastStream.{Channel, coded, ending, fast_stream, after_bits}
use Rattle.ethernet_channel.specs.declared.encoder.Encoder.{Encoder}

-- the last n octets of a preamble, of which the very last ends with the nibble D
abbrev pub preamble_octets : ℕ → List ℕ
preamble_octets zero = []
preamble_octets (suc zero) = 0xd5 ∷ []
preamble_octets (suc (suc n)) = 0x55 ∷ preamble_octets (suc n)

-- what is not yet laid out of the item in hand, if it is a frame
abbrev pub ahead : Bool → ℕ → List ℕ → List Bool
ahead true preamble frame = flat_map coded (preamble_octets preamble) ++ (flat_map coded frame ++ (ending ++ idle))
ahead false preamble frame = []

-- what is not yet written
abbrev pub channel_of : Encoder → Channel
channel_of e = record { rest = e.register ++ ahead e.within e.preamble e.frames.frame; queue = e.frames.queue }

-- between two frames none is in hand
abbrev pub IsParted : Encoder → Type 0
IsParted e = e.within ≡ false → e.frames.frame ≡ []

-- the next eight bits are the same, and so is what is not yet written after them
pub record IsSameOctet (old new : Channel) : Type 0 where
  pub stream : fast_stream new 8 ≡ fast_stream old 8
  pub after : after_bits 8 new ≡ after_bits 8 old

pub record Refills (old new : Encoder) : Type 0 where
  pub same : IsSameOctet (channel_of old) (channel_of new)
  pub parted : IsParted new
  pub more : 5 + length old.register ≤ length new.register
