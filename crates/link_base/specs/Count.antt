-- How many numbers have a property. This project's own.
use Rattle.std.specs.Prelude.{ℕ, ◌≡◌, ◌↔◌, List, length, Contains}
use Rattle.std.specs.List.Sorted.{IsStrictlyIncreasing}

-- exactly n numbers have the property: those of an ascending list of n numbers
pub record HasCount (P : ℕ → Type 0) (n : ℕ) : Type 0 where
  pub numbers : List ℕ
  pub ascending : IsStrictlyIncreasing numbers
  pub counted : length numbers ≡ n
  pub exactly : (i : ℕ) → P i ↔ Contains numbers i
