-- Offers of control and management channels, and how two of them meet. The order of offers is this project's own.
use Rattle.std.specs.Prelude.{◌≡◌, Bool, ◌==◌, ◌&&◌, ◌||◌, if◌then◌else◌, min, max, IsTrue}
use Rattle.control_words.specs.declared.announce.Announce.{Announce}
use Rattle.startup_machine.specs.declared.caps.Caps.{Caps}
use Rattle.startup_machine.specs.declared.offer.Offer.{Offer}
use Rattle.startup_machine.specs.Range.{is_in_range}

-- the offer of an announcement
abbrev pub offer_of : Announce → Offer
offer_of a = record { hdlc = a.hdlc; pointer = a.pointer }

-- the caps of an end as an offer
abbrev pub greatest_offer : Caps → Offer
greatest_offer caps = record { hdlc = caps.hdlc; pointer = caps.pointer }

-- The meet of two offers: the lower HDLC rate code, and the greater pointer, which leaves the fast channel less room.
-- There is no fast channel where one of them has none.
abbrev pub meet : Offer → Offer → Offer
meet a b = record {
  hdlc = min a.hdlc b.hdlc;
  pointer = if a.pointer == 0 || b.pointer == 0 then 0 else max a.pointer b.pointer;
}

-- the first offer is at or below the second
abbrev pub IsAtOrBelow : Offer → Offer → Type 0
IsAtOrBelow a b = meet a b ≡ a

-- the two offers are the same
abbrev pub is_same_offer : Offer → Offer → Bool
is_same_offer a b = a.hdlc == b.hdlc && a.pointer == b.pointer

-- the offer of an announcement may be made
abbrev pub IsInRange : Announce → Type 0
IsInRange a = IsTrue (is_in_range a.hdlc a.pointer)
