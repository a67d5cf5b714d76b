-- Numbers in groups of three digits. This is the project's own.
use Rattle.std.specs.Prelude.{ℕ, ◌+◌, ◌-◌, ◌/◌, ◌%◌, ◌==◌, nat_lt, if◌then◌else◌, List, [], ◌∷◌}

-- the digit of a number below ten
abbrev pub digit : ℕ → ℕ
digit d = 48 + d

-- all three digits of a number below 1,000
unfoldable pub three_digits : ℕ → List ℕ
three_digits n = digit (n / 100) ∷ digit (n / 10 % 10) ∷ digit (n % 10) ∷ []

-- the digits of a number below 1,000, without zeros in front
unfoldable pub short_digits : ℕ → List ℕ
short_digits n =
    if nat_lt n 10 then digit n ∷ [] else (if nat_lt n 100 then digit (n / 10) ∷ digit (n % 10) ∷ [] else three_digits n)

-- The text of an entry of the table: a first group, which is empty where it is 0, a group that stands alone, and one that
-- stands behind another.
unfoldable pub group_text : ℕ → List ℕ
group_text n =
    if n == 0 then [] else (if nat_lt n 1000 then short_digits n else (if nat_lt n 2000 then short_digits (n - 1000) else three_digits (n - 2000)))
