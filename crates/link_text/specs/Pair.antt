-- Two numbers in a line, with one space between them. This is the project's own.
use Rattle.std.specs.Prelude.{◌≡◌, ℕ, ℤ, ◌+◌, ◌<◌, List, ◌∷◌, ◌++◌, length, take, drop, Some}
use Rattle.link_text.specs.Decimals.{signed_value}
use Rattle.link_text.specs.Fields.{at_first_space}
use Rattle.link_text.specs.Lines.{IsLine}

-- A line has two numbers, with one space between them.
pub record IsPair (line : List ℕ) (i q : ℤ) : Type 0 where
  pub first : List ℕ
  pub second : List ℕ
  pub fields : at_first_space line ≡ Some (first, second)
  pub first_value : signed_value first ≡ Some i
  pub second_value : signed_value second ≡ Some q

-- The first line of these octets, which has so many octets before its line feed, has two numbers.
pub record IsFrontPair (octets : List ℕ) (i q : ℤ) (count : ℕ) : Type 0 where
  pub within : count < length octets
  pub line : IsLine (take count octets)
  pub at : octets ≡ take count octets ++ 10 ∷ drop (count + 1) octets
  pub pair : IsPair (take count octets) i q
