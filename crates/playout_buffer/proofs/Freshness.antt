-- Arrivals that come in time are taken for the packets that they are from.
use Rattle.std.proofs.Common.{◌≡◌, ℕ, List, get_or, arith, sym, subst, inl, inr}
use Rattle.std.proofs.lemmas.Bool.{cases_order}
use Rattle.playout_buffer.specs.Candidate.{IsCandidate, sequence_number}
use Rattle.playout_buffer.specs.Conditions.{IsWindow}
use Rattle.playout_buffer.specs.declared.window.Window.{Window}
use Rattle.playout_buffer.specs.Fresh.{IsFrom, IsBeforeNext, AreInTime, AreFresh}
use Rattle.playout_buffer.specs.Received.{Arrival}
use Rattle.playout_buffer.proofs.Numbers.{alike_from_number, wide_numbers, later_by_numbers}

pub candidate_is_fresh : (w : Window) (t i j : ℕ) → IsWindow w → IsBeforeNext w t j → IsCandidate w t (sequence_number w j) i → i ≡ j
candidate_is_fresh w t i j is in_time candidate =
    let alike = alike_from_number w is i j candidate.number in
    let wide = wide_numbers w is in
    elim (cases_order i j) [
      | inl same ↦ same
      | inr (inl less) ↦
          let later = later_by_numbers w is j i (sym alike) less in
          absurd (omega (arith, later, wide, in_time.not_early, candidate.arrives.1))
      | inr (inr more) ↦
          let later = later_by_numbers w is i j alike more in
          absurd (omega (arith, later, wide, in_time.not_stale, candidate.arrives.0))
    ]

pub are_fresh : (w : Window) (payloads : ℕ → List ℕ) (arrivals : List Arrival) → IsWindow w → AreInTime w payloads arrivals → AreFresh w payloads arrivals
are_fresh w payloads arrivals is in_time k d less i candidate =
    let origin = in_time k d less in
    let numbered = subst (λ seq. IsCandidate w (get_or arrivals k d).tick seq i) origin.1.number candidate in
    subst (IsFrom w payloads (get_or arrivals k d)) (sym (candidate_is_fresh w (get_or arrivals k d).tick i origin.0 is origin.2 numbered)) origin.1
