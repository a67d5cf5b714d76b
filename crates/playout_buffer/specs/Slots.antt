-- How the slots of the buffer stand for the payloads that are held. This project's own.
use Rattle.std.specs.Prelude.{◌≡◌, ◌&&◌, nat_lt, ℕ, ◌+◌, ◌-◌, ◌*◌, ◌%◌, ◌^◌, ◌<◌, ◌≤◌, List, length, take, drop, filter_map, slice_index, Option, Some, None, if◌then◌else◌}
use Rattle.std.specs.FinMap.{from_entries}
use Rattle.std.specs.List.{range_with_len}
use Rattle.link_base.specs.Window.{last_frame}
use Rattle.playout_buffer.specs.declared.window.Window.{Window}
use Rattle.playout_buffer.specs.Conditions.{IsWindow, payload_octets}
use Rattle.playout_buffer.specs.Held.{Payloads, is_awaited}

-- the payload of a slot
abbrev pub payload_at : Window → List ℕ → ℕ → List ℕ
payload_at w octets slot = take (payload_octets w) (drop (slot * payload_octets w) octets)

-- The packet that a slot holds, with its payload. The slot has one more than the number of its packet, or 0 where it is
-- empty, and a packet that is not awaited any more is not held.
abbrev pub entry_in : Window → (t : ℕ) → (numbers octets : List ℕ) → (slot : ℕ) → Option (ℕ × List ℕ)
entry_in w t numbers octets slot =
    if nat_lt 0 (slice_index numbers slot) && is_awaited w t (slice_index numbers slot - 1)
    then Some (slice_index numbers slot - 1, payload_at w octets slot)
    else None

unfoldable pub held_in : Window → (t : ℕ) → (numbers octets : List ℕ) → Payloads
held_in w t numbers octets = from_entries (filter_map (entry_in w t numbers octets) (range_with_len 0 w.cap))

-- what holds of the slots at every tick
pub record AreSlots (w : Window) (t : ℕ) (numbers octets : List ℕ) : Type 0 where
  pub window : IsWindow w
  pub present : t ≤ 2 ^ 41
  pub numbered : length numbers ≡ w.cap
  pub long : length octets ≡ w.cap * payload_octets w
  -- a packet stands in its own slot, and its window has opened
  pub placed : (slot i : ℕ) → slot < w.cap → slice_index numbers slot ≡ i + 1 → (i % w.cap ≡ slot) × (last_frame w.frames i + w.lmin ≤ t)
