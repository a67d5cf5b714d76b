-- Octets as hexadecimal text: two digits for each octet, the one of the higher half first (the words are those of the crate hex).
use Rattle.std.specs.Prelude.{ℕ, List, [], ◌∷◌, Option, None}
use Rattle.std.specs.Result.{result_ok}
use Rattle.hex.specs.Hex.{decode_of}

-- the octets that digits of either case spell, at least one
abbrev pub spelled_octets : List ℕ → Option (List ℕ)
spelled_octets [] = None
spelled_octets (c ∷ text) = result_ok (decode_of (c ∷ text))
