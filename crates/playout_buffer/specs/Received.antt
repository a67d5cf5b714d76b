-- What is received of the payloads that arrive. This project's own.
use Rattle.std.specs.Prelude.{◌≡◌, ℕ, ◌/◌, Bool, true, false, List, Option, Some, None, slice_get, count_by, filter_map, if◌then◌else◌}
use Rattle.std.specs.FinMap.{get}
use Rattle.std.specs.List.{range_with_len}
use Rattle.std.specs.Option.{is_some, option_map}
use Rattle.playout_buffer.specs.declared.put.Put.{Put}
use Rattle.playout_buffer.specs.declared.put.Put.TheVariants.{Taken, Repeat, Outside}
use Rattle.playout_buffer.specs.declared.window.Window.{Window}
use Rattle.playout_buffer.specs.Candidate.{is_candidate}
use Rattle.playout_buffer.specs.Held.{is_awaited, part_of}
use Rattle.playout_buffer.specs.View.{PlayoutView}

-- a payload that arrives at a tick under a sequence number
pub record Arrival : Type 0 where
  pub tick : ℕ
  pub seq : ℕ
  pub payload : List ℕ

-- the payload that an arrival brings for packet i: its own, where packet i is its candidate
unfoldable pub payload_for : Window → ℕ → Arrival → Option (List ℕ)
payload_for w i a = if is_candidate w a.tick a.seq i then Some a.payload else None

-- the payload of packet i: that of the first arrival that brings one
abbrev pub received : Window → List Arrival → ℕ → Option (List ℕ)
received w arrivals i = slice_get (filter_map (payload_for w i) arrivals) 0

-- what is said of an arrival after these, by its candidate
abbrev pub arrival_answer : Window → List Arrival → Option ℕ → Put
arrival_answer w arrivals None = Outside
arrival_answer w arrivals (Some i) = if is_some (received w arrivals i) then Repeat i else Taken i

-- how many packets are received
unfoldable pub taken : Window → List Arrival → ℕ
taken w arrivals = count_by (λ i. is_some (received w arrivals i)) (range_with_len 0 w.packets)

abbrev pub is_taken : Put → Bool
is_taken (Taken i) = true
is_taken (Repeat i) = false
is_taken Outside = false

-- the octets of frame n, where its packet is received
abbrev pub part_received : Window → List Arrival → ℕ → Option (List ℕ)
part_received w arrivals n = option_map (part_of w n) (received w arrivals (n / w.frames))

-- the buffer holds what is received of the packets that are awaited, and nothing else
abbrev pub HoldsReceived : PlayoutView → List Arrival → Type 0
HoldsReceived v arrivals = (i : ℕ) → get v.held i ≡ (if is_awaited v.window v.tick i then received v.window arrivals i else None)
