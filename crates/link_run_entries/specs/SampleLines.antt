-- The samples that leave at a tick, in the text that is printed of them. The text is this project's own.
use Rattle.std.specs.Prelude.{codes, decimal, ℕ, ◌+◌, ◌==◌, if◌then◌else◌, List, [], ◌∷◌, ◌++◌, slice_get, Option, Some, None}
use Rattle.std.specs.Fmt.{signed_decimal}
use Rattle.std.specs.Int.{bit_at}
use Rattle.sample_bits.specs.declared.iq.RawIq.{RawIq}
use Rattle.link_text.specs.Printed.{lines_below}

-- a sample, or the mark in its place
abbrev pub value_text : Option RawIq → List ℕ
value_text None = codes "-"
value_text (Some sample) = signed_decimal sample.i ++ codes " " ++ signed_decimal sample.q

-- a sample as it leaves: its tick, its carrier and its number, and the sample
unfoldable pub sample_line : (tick carrier number : ℕ) → Option RawIq → List ℕ
sample_line tick carrier number value =
    decimal tick ++ codes " " ++ decimal carrier ++ codes " " ++ decimal number ++ codes " " ++ value_text value ++ 10 ∷ []

-- sample i of a run, where bit i of the marks is not 1
abbrev pub value_of_run : (marks : ℕ) → List RawIq → ℕ → Option RawIq
value_of_run marks samples i = if bit_at marks i == 1 then None else slice_get samples i

-- the lines of the first samples of a run, which have the numbers from one on
unfoldable pub run_lines : (tick carrier number marks : ℕ) → List RawIq → (count : ℕ) → List ℕ
run_lines tick carrier number marks samples count =
    lines_below (λ i. sample_line tick carrier (number + i) (value_of_run marks samples i)) count
