-- The parts of a line of a run: what its lines have in common, the last digit of the number, and the rest. This is the
-- project's own.
use Rattle.std.specs.Prelude.{◌≡◌, codes, decimal, ℕ, ◌≤◌, ◌==◌, if◌then◌else◌, List, [], ◌∷◌, ◌++◌, length, take, Option}
use Rattle.sample_bits.specs.declared.iq.RawIq.{RawIq}
use Rattle.link_run_entries.specs.SampleLines.{value_text}

-- the tick and the carrier
abbrev pub both_numbers : (tick carrier : ℕ) → List ℕ
both_numbers tick carrier = decimal tick ++ codes " " ++ decimal carrier ++ codes " "

-- the digits of a number but the last, by the number of tens
unfoldable pub tens_text : ℕ → List ℕ
tens_text tens = if tens == 0 then [] else decimal tens

-- the front of a line
abbrev pub front_text : (tick carrier tens : ℕ) → List ℕ
front_text tick carrier tens = both_numbers tick carrier ++ tens_text tens

-- what stands behind the number
abbrev pub rest_text : Option RawIq → List ℕ
rest_text value = codes " " ++ value_text value ++ 10 ∷ []

-- A tick and a space stand in the first octets.
pub record IsTickText (tick : ℕ) (octets : List ℕ) (end : ℕ) : Type 0 where
  pub is : take end octets ≡ decimal tick ++ codes " "
  pub within : end ≤ 21

-- The front of a line stands in the first octets, and the digits of the number begin at `start`.
pub record IsFront (tick carrier tens : ℕ) (octets : List ℕ) (start end : ℕ) : Type 0 where
  pub both : take start octets ≡ both_numbers tick carrier
  pub start_within : start ≤ 32
  pub front : take end octets ≡ front_text tick carrier tens
  pub ends : end ≡ length (front_text tick carrier tens)
  pub end_within : end ≤ 52
