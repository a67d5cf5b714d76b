-- What a line of a sample is, by which carrier comes next.
use Rattle.std.proofs.Common.{◌≡◌, ℕ, zero, suc, ℤ, Bool, true, false, List, [], ◌∷◌, All, Some, None, Ok, Err, T, refl, ap, ◌∙◌, arith}
use Rattle.std.specs.Prelude.{◌&&◌, if◌then◌else◌}
use Rattle.std.proofs.lemmas.List.Elements.{All-get_or}
use Rattle.link_run_feed.specs.declared.reason.Reason.TheVariants.{Count, Number, Range}
use Rattle.link_sender_blocks.specs.Containers.{IsFirstOutside}
use Rattle.sample_bits.specs.Samples.{FitsBits, IsWithin}
use Rattle.sample_bits.specs.declared.iq.RawIq.{RawIq}
use Rattle.link_run_send.specs.Lacking.{next_carrier}
use Rattle.link_run_send.specs.SampleLine.{fits_bits, is_within, sample_of}
use Rattle.link_run_send.specs.Sent.{Sent, by_sample, complete_of, sample_line, settling, width_of, with_sample}

-- ---- the bits of a number

holds : (b : Bool) → T b → b ≡ true
holds true t = refl
holds false t = absurd t

held : (b : Bool) → b ≡ true → T b
held true is = tt
held false is = absurd (cc)

both : (a b : Bool) → a ≡ true → b ≡ true → a && b ≡ true
both a b first second = ap (λ c. c && b) first ∙ second

first_of : (a b : Bool) → a && b ≡ true → a ≡ true
first_of true b is = refl
first_of false b is = absurd (cc)

second_of : (a b : Bool) → a && b ≡ true → b ≡ true
second_of true b is = is
second_of false b is = absurd (cc)

fits_true : (m : ℕ) (z : ℤ) → FitsBits m z → fits_bits m z ≡ true
fits_true m z fits = both _ _ (holds _ fits.0.le) (holds _ fits.1.lt)

fits_from : (m : ℕ) (z : ℤ) → fits_bits m z ≡ true → FitsBits m z
fits_from m z is = (record { le = held _ (first_of _ _ is) }, record { lt = held _ (second_of _ _ is) })

pub within_true : (m : ℕ) (v : RawIq) → IsWithin m v → is_within m v ≡ true
within_true m v within = both _ _ (fits_true m v.i within.i) (fits_true m v.q within.q)

pub within_from : (m : ℕ) (v : RawIq) → is_within m v ≡ true → IsWithin m v
within_from m v is = record { i = fits_from m v.i (first_of _ _ is); q = fits_from m v.q (second_of _ _ is) }

pub within_false : (m : ℕ) (v : RawIq) → ¬ IsWithin m v → is_within m v ≡ false
within_false m v outside = by (is_within m v) refl
  where
    by : (b : Bool) → is_within m v ≡ b → is_within m v ≡ false
    by true is = absurd (outside (within_from m v is))
    by false is = is

-- ---- one sample, as it is looked for among those outside

pub one_within : (m : ℕ) (v : RawIq) → All (IsWithin m) (v ∷ []) → IsWithin m v
one_within m v all = All-get_or (IsWithin m) (v ∷ []) 0 v (omega arith) all

pub one_outside : (m : ℕ) (v : RawIq) (r : ℕ) → IsFirstOutside m (v ∷ []) r → ¬ IsWithin m v
one_outside m v zero first = first.outside v
one_outside m v (suc r) first = absurd (omega (arith, first.inside))

-- ---- the line

module _ (s : Sent) (line : List ℕ) where
  pub line_counts : next_carrier s.plan s.header.run_ticks s.stream ≡ None → sample_line s line ≡ Err Count
  unfolding sample_line
  line_counts none = ap (λ c. by_sample s c (sample_of line)) none

  module _ (c : ℕ) (next : next_carrier s.plan s.header.run_ticks s.stream ≡ Some c) where
    pub line_no_number : sample_of line ≡ None → sample_line s line ≡ Err Number
    unfolding sample_line
    line_no_number none = ap (λ d. by_sample s d (sample_of line)) next ∙ ap (by_sample s (Some c)) none

    by_width : (v : RawIq) → sample_of line ≡ Some v → sample_line s line ≡ by_sample s (Some c) (Some v)
    unfolding sample_line
    by_width v is = ap (λ d. by_sample s d (sample_of line)) next ∙ ap (by_sample s (Some c)) is

    pub line_reads : (v : RawIq) → sample_of line ≡ Some v → IsWithin (width_of s.plan c) v → sample_line s line ≡ Ok (settling (with_sample s c v) (complete_of (with_sample s c v)))
    line_reads v is within =
        by_width v is ∙ ap (λ b. if b then Ok (settling (with_sample s c v) (complete_of (with_sample s c v))) else Err Range) (within_true (width_of s.plan c) v within)

    pub line_outside : (v : RawIq) → sample_of line ≡ Some v → ¬ IsWithin (width_of s.plan c) v → sample_line s line ≡ Err Range
    line_outside v is outside =
        by_width v is ∙ ap (λ b. if b then Ok (settling (with_sample s c v) (complete_of (with_sample s c v))) else Err Range) (within_false (width_of s.plan c) v outside)
