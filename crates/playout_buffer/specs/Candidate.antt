-- Which packet of a run a sequence number stands for at a tick. This project's own (the field that carries the sequence
-- number is the ordering information of IEEE 1914.3-2018).
use Rattle.std.specs.Prelude.{◌≡◌, ◌==◌, ◌&&◌, nat_le, nat_lt, ℕ, ◌+◌, ◌-◌, ◌*◌, ◌/◌, ◌%◌, ◌<◌, Bool, Option, find}
use Rattle.std.specs.List.{range_with_len}
use Rattle.link_base.specs.Window.{last_frame, IsOpen}
use Rattle.playout_buffer.specs.declared.window.Window.{Window}

-- the sequence number of packet i: its count modulo q in the upper 16 bits, and modulo p in the lower
abbrev pub sequence_number : Window → ℕ → ℕ
sequence_number w i = 65536 * (i / w.p % w.q) + i % w.p

-- how many packets have windows that have opened by tick t: those that are whole lmin ticks before
abbrev pub packets_opened : Window → (t : ℕ) → ℕ
packets_opened w t = (t + 1 - w.lmin) / w.frames

-- packet i of the run has this sequence number, and may arrive at tick t
pub record IsCandidate (w : Window) (t seq i : ℕ) : Type 0 where
  pub within : i < w.packets
  pub number : sequence_number w i ≡ seq
  pub arrives : IsOpen w.frames w.lmin w.lmax t i

-- whether it is so
unfoldable pub is_candidate : Window → (t seq i : ℕ) → Bool
is_candidate w t seq i =
    nat_lt i w.packets && (sequence_number w i == seq && (nat_le (last_frame w.frames i + w.lmin) t && nat_le t (last_frame w.frames i + w.lmax)))

-- the packet for which it is so
unfoldable pub candidate_of : Window → (t seq : ℕ) → Option ℕ
candidate_of w t seq = find (is_candidate w t seq) (range_with_len 0 w.packets)
