-- Laws over the packets of a window. This project's own.
use Rattle.std.specs.Prelude.{◌≡◌, ◌↔◌, ℕ, ◌+◌, ◌%◌, ◌<◌, List, [], ◌∷◌, ◌++◌, Some, All, if◌then◌else◌}
use Rattle.std.specs.FinMap.{empty, retain_keys}
use Rattle.link_base.specs.Window.{last_frame, IsHeld}
use Rattle.playout_buffer.specs.declared.window.Window.{Window}
use Rattle.playout_buffer.specs.Candidate.{IsCandidate, candidate_of}
use Rattle.playout_buffer.specs.Conditions.{IsWindow}
use Rattle.playout_buffer.specs.Held.{is_awaited, put_answer, payloads_with, part_in}
use Rattle.playout_buffer.specs.Received.{Arrival, arrival_answer, is_taken, part_received, received, taken, HoldsReceived}
use Rattle.playout_buffer.specs.View.{PlayoutView}

abbrev pub CandidatesAreUnique : Type 0
CandidatesAreUnique = (w : Window) (t seq i j : ℕ) → IsWindow w → IsCandidate w t seq i → IsCandidate w t seq j → i ≡ j

abbrev pub CandidateIsFound : Type 0
CandidateIsFound = (w : Window) (t seq i : ℕ) → IsWindow w → (candidate_of w t seq ≡ Some i) ↔ IsCandidate w t seq i

abbrev pub HeldPacketsHaveOwnSlots : Type 0
HeldPacketsHaveOwnSlots =
    (w : Window) (t i j : ℕ) → IsWindow w → IsHeld w.frames w.lmin w.playout t i → IsHeld w.frames w.lmin w.playout t j
    → i % w.cap ≡ j % w.cap → i ≡ j

-- no arrival after the end of a packet's window changes what is received of it
abbrev pub ReceivedIsSettled : Type 0
ReceivedIsSettled =
    (w : Window) (i : ℕ) (arrivals later : List Arrival) → All (λ a. last_frame w.frames i + w.lmax < a.tick) later
    → received w (arrivals ++ later) i ≡ received w arrivals i

-- each arrival that is taken is one packet more
abbrev pub TakenAreCounted : Type 0
TakenAreCounted =
    (w : Window) (arrivals : List Arrival) (a : Arrival) → IsWindow w
    → taken w (arrivals ++ a ∷ []) ≡ taken w arrivals + (if is_taken (arrival_answer w arrivals (candidate_of w a.tick a.seq)) then 1 else 0)

-- What a buffer holds after its calls, what it says of an arrival, and which parts it lends, are what is received of all that
-- arrived.
pub record HeldIsReceived : Type 0 where
  pub at_first : (w : Window) → HoldsReceived (record { window = w; tick = 0; held = empty }) []
  pub after_put : (v : PlayoutView) (seq : ℕ) (payload : List ℕ) (arrivals : List Arrival) → IsWindow v.window → HoldsReceived v arrivals
      → HoldsReceived (record v { held = payloads_with v.held (candidate_of v.window v.tick seq) payload }) (arrivals ++ record { tick = v.tick; seq = seq; payload = payload } ∷ [])
  pub after_advance : (v : PlayoutView) (arrivals : List Arrival) → HoldsReceived v arrivals
      → HoldsReceived (record v { tick = v.tick + 1; held = retain_keys v.held (is_awaited v.window (v.tick + 1)) }) arrivals
  pub answer : (v : PlayoutView) (seq : ℕ) (arrivals : List Arrival) → IsWindow v.window → HoldsReceived v arrivals
      → put_answer v.held (candidate_of v.window v.tick seq) ≡ arrival_answer v.window arrivals (candidate_of v.window v.tick seq)
  pub part : (v : PlayoutView) (n : ℕ) (arrivals : List Arrival) → IsWindow v.window → n + v.window.playout ≡ v.tick → HoldsReceived v arrivals
      → part_in v.window v.held n ≡ part_received v.window arrivals n
