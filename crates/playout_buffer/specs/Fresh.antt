-- Arrivals that are from the packets that they are taken for. This project's own.
use Rattle.std.specs.Prelude.{◌≡◌, ℕ, ◌+◌, ◌-◌, ◌*◌, ◌≤◌, List, All}
use Rattle.link_base.specs.Window.{last_frame}
use Rattle.playout_buffer.specs.declared.window.Window.{Window}
use Rattle.playout_buffer.specs.Candidate.{IsCandidate, sequence_number}
use Rattle.playout_buffer.specs.Conditions.{IsWindow}
use Rattle.playout_buffer.specs.Received.{Arrival}

-- the arrival has the sequence number and the payload of packet i
pub record IsFrom (w : Window) (payloads : ℕ → List ℕ) (a : Arrival) (i : ℕ) : Type 0 where
  pub number : a.seq ≡ sequence_number w i
  pub payload : a.payload ≡ payloads i

-- tick t is not before the window of packet i opens, and before that of the next packet with its number does
pub record IsBeforeNext (w : Window) (t i : ℕ) : Type 0 where
  pub not_early : last_frame w.frames i + w.lmin ≤ t
  pub not_stale : t ≤ last_frame w.frames i + w.lmax + (w.p * w.q * w.frames - (w.lmax - w.lmin) - 1)

-- each arrival is from a packet, and came neither before its window nor as late as the next packet with its number
abbrev pub AreInTime : Window → (ℕ → List ℕ) → List Arrival → Type 0
AreInTime w payloads arrivals = All (λ a. (i : ℕ) × IsFrom w payloads a i × IsBeforeNext w a.tick i) arrivals

-- each arrival that has a candidate is from it
abbrev pub AreFresh : Window → (ℕ → List ℕ) → List Arrival → Type 0
AreFresh w payloads arrivals = All (λ a. (i : ℕ) → IsCandidate w a.tick a.seq i → IsFrom w payloads a i) arrivals

-- no other packet is taken for one that comes in time
abbrev pub CandidatesAreFresh : Type 0
CandidatesAreFresh = (w : Window) (t i j : ℕ) → IsWindow w → IsBeforeNext w t j → IsCandidate w t (sequence_number w j) i → i ≡ j

abbrev pub ArrivalsAreFresh : Type 0
ArrivalsAreFresh = (w : Window) (payloads : ℕ → List ℕ) (arrivals : List Arrival) → IsWindow w → AreInTime w payloads arrivals → AreFresh w payloads arrivals
