-- The lines of a run, and what they have in common.
use Rattle.std.proofs.Common.{◌≡◌, ◌∙◌, ℕ, ◌+◌, ◌*◌, ◌%◌, ◌^◌, ◌<◌, ◌≤◌, ◌==◌, if◌then◌else◌, Bool, List, [], ◌∷◌, ◌++◌, length, take, slice_get, Option, Some, None, refl, sym, ap, arith, append_assoc, length-append, decimal, codes}
use Rattle.std.specs.Int.{bit_at}
use Rattle.std.proofs.lemmas.List.{length-take-le}
use Rattle.std.proofs.Math.Nat.{zero-div}
use Rattle.sample_bits.specs.declared.iq.RawIq.{RawIq}
use Rattle.link_text.specs.Laid.{Lays}
use Rattle.link_text.proofs.PrintedLines.{one_more_line}
use Rattle.link_run_entries.specs.Groups.{digit}
use Rattle.link_run_entries.specs.Fronts.{both_numbers, tens_text, front_text, rest_text, IsFront}
use Rattle.link_run_entries.specs.SampleLines.{value_text, sample_line, value_of_run, run_lines}
use Rattle.link_run_entries.proofs.Laying.{lays_then, lays_as, lays_before}
use Rattle.link_run_entries.proofs.Numbers.{last_behind}

-- the digits of the number were laid out behind the tick and the carrier
pub front_of : (tick carrier tens : ℕ) (old new : List ℕ) (start end : ℕ) → take start old ≡ both_numbers tick carrier → start ≤ 32 → start ≤ length old → Lays (tens_text tens) old start new end → end ≤ start + 20 → IsFront tick carrier tens new start end
front_of tick carrier tens old new start end both low within lays short =
    let ends = lays.ends in
    let size : start ≡ length (both_numbers tick carrier) = sym (length-take-le start old within) ∙ ap length both in
    record {
      both = lays_before (tens_text tens) old new start end start (omega arith) within lays ∙ both;
      start_within = low;
      front = lays.laid ∙ ap (λ t. t ++ tens_text tens) both;
      ends = omega (arith, size, length-append (both_numbers tick carrier) (tens_text tens));
      end_within = omega arith;
    }

-- a line by its parts
pub line_is : (tick carrier tens last : ℕ) (value : Option RawIq) → last < 10 → 10 * tens + last < 2 ^ 64 → (front_text tick carrier tens ++ digit last ∷ []) ++ rest_text value ≡ sample_line tick carrier (10 * tens + last) value
unfolding sample_line
line_is tick carrier tens last value small high =
    let both = both_numbers tick carrier in
    let number = decimal (10 * tens + last) in
    ap (λ t. t ++ rest_text value) (append_assoc both (tens_text tens) (digit last ∷ []) ∙ ap (λ t. both ++ t) (last_behind (10 * tens + last) tens last refl small high))
    ∙ sym (append_assoc (both ++ number) (codes " " ++ value_text value) (10 ∷ []))
    ∙ ap (λ t. t ++ 10 ∷ []) (sym (append_assoc (both ++ number) (codes " ") (value_text value)))

pub no_lines : (tick carrier number marks : ℕ) (samples : List RawIq) → [] ≡ run_lines tick carrier number marks samples 0
unfolding run_lines
no_lines tick carrier number marks samples = refl

-- the line of one more sample
pub run_more : (tick carrier number marks : ℕ) (samples : List RawIq) (i : ℕ) (t c n : ℕ) (value : Option RawIq) (old mid new : List ℕ) (at m e : ℕ)
    → Lays (run_lines tick carrier number marks samples i) old at mid m → Lays (sample_line t c n value) mid m new e
    → t ≡ tick → c ≡ carrier → n ≡ number + i → value ≡ value_of_run marks samples i
    → Lays (run_lines tick carrier number marks samples (i + 1)) old at new e
unfolding run_lines
run_more tick carrier number marks samples i t c n value old mid new at m e before line is_tick is_carrier is_number is_value =
    let place = λ (k : ℕ). sample_line tick carrier (number + k) (value_of_run marks samples k) in
    let same : sample_line t c n value ≡ place i =
    ap (λ x. sample_line x c n value) is_tick ∙ ap (λ x. sample_line tick x n value) is_carrier
    ∙ ap (λ x. sample_line tick carrier x value) is_number ∙ ap (sample_line tick carrier (number + i)) is_value
    in
    lays_as _ _ _ _ _ _ (one_more_line place [] i) (lays_then _ _ _ _ _ _ _ _ before (lays_as _ _ _ _ _ _ same line))

-- where no sample is marked
pub value_unmarked : (samples : List RawIq) (i : ℕ) (sample : RawIq) → slice_get samples i ≡ Some sample → Some sample ≡ value_of_run 0 samples i
value_unmarked samples i sample is =
    sym is ∙ sym (ap (λ k. if k % 2 == 1 then None else slice_get samples i) (zero-div (2 ^ i)))

pub value_of_marks : (marks : ℕ) (samples : List RawIq) (i : ℕ) (marked : Bool) (sample : RawIq) → marked ≡ (bit_at marks i == 1) → slice_get samples i ≡ Some sample → (if marked then None else Some sample) ≡ value_of_run marks samples i
value_of_marks marks samples i marked sample is at =
    ap (λ b. if b then None else Some sample) is ∙ ap (λ v. if bit_at marks i == 1 then None else v) (sym at)
