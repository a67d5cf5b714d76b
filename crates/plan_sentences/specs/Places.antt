-- What a rule that fails is called in a sentence: by its number, and by the carrier or the flow where it speaks of one. The words are this
-- project's own.
use Rattle.std.specs.Prelude.{codes, decimal, ℕ, List, [], ◌++◌, Bool, ◌&&◌, nat_lt, if◌then◌else◌}

-- whether a rule speaks of one carrier
abbrev pub is_of_carrier : ℕ → Bool
is_of_carrier rule = nat_lt 3 rule && nat_lt rule 9

-- whether a rule speaks of one flow
abbrev pub is_of_flow : ℕ → Bool
is_of_flow rule = nat_lt 9 rule && nat_lt rule 15

abbrev pub part_text : (rule item : ℕ) → List ℕ
part_text rule item =
    if is_of_carrier rule then codes ", carrier " ++ decimal item else (if is_of_flow rule then codes ", flow " ++ decimal item else [])

-- the rule with this number, failed by this carrier or flow
unfoldable pub place_text : (rule item : ℕ) → List ℕ
place_text rule item = codes "rule " ++ decimal rule ++ part_text rule item
