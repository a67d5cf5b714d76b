-- Octets as nibbles, the low one of each first. This is how the 4B/5B code takes them (IEEE 802.3 clause 24.2.2.1).
use Rattle.std.specs.Prelude.{ℕ, ◌/◌, ◌%◌, List, [], ◌∷◌}
use Rattle.std.specs.List.{flat_map}

abbrev pub nibbles_in : List ℕ → List ℕ
nibbles_in octets = flat_map (λ octet. octet % 16 ∷ octet / 16 ∷ []) octets
