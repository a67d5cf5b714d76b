-- The values that may be announced in control words (CPRI Specification V7.0, sections 4.2.7.6 and 4.2.7.7).
-- The word sizes that an HDLC rate code needs follow from this project's own places of the slow channel.
use Rattle.std.specs.Prelude.{◌≡◌, ℕ, ◌<◌, Bool, ◌==◌, ◌&&◌, ◌||◌, nat_le, if◌then◌else◌, Option, Some, None, IsTrue}
use Rattle.control_words.specs.declared.announce.Announce.{Announce}

-- whether words of Y octets have the places of an HDLC rate code
abbrev pub allows_hdlc : ℕ → ℕ → Bool
allows_hdlc Y code =
    nat_le code 2 || (code == 3 && nat_le 2 Y) || (code == 4 && nat_le 4 Y)
    || (code == 5 && nat_le 5 Y) || (code == 6 && nat_le 8 Y)

-- whether a number is a pointer to a fast channel, or 0 for none
abbrev pub allows_pointer : ℕ → Bool
allows_pointer pointer = pointer == 0 || (nat_le 20 pointer && nat_le pointer 63)

-- each part of an announcement is within its table, for words of Y octets
pub record IsWithinTable (Y : ℕ) (a : Announce) : Type 0 where
  pub version : a.version ≡ 1
  pub hdlc : IsTrue (allows_hdlc Y a.hdlc)
  pub pointer : IsTrue (allows_pointer a.pointer)
  pub l1 : a.l1 < 32

-- the announcement of two channels, of version 1 and with no bit of the L1 inband protocol, where it is within its table
abbrev pub announcement_of : ℕ → ℕ → ℕ → Option Announce
announcement_of Y hdlc pointer =
    if allows_hdlc Y hdlc && allows_pointer pointer then Some (record { version = 1; hdlc = hdlc; pointer = pointer; l1 = 0 }) else None
