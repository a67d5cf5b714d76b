-- The payloads that are held, by the numbers of their packets, and what is done with them. This project's own.
use Rattle.std.specs.Prelude.{nat_le, ℕ, ◌+◌, ◌*◌, ◌/◌, ◌%◌, Bool, List, take, drop, Option, Some, None, if◌then◌else◌}
use Rattle.std.specs.FinMap.{FinMap, contains_key, get, insert}
use Rattle.std.specs.Option.{option_map}
use Rattle.std.specs.Ordering.{nat_cmp}
use Rattle.link_base.specs.Window.{last_frame}
use Rattle.playout_buffer.specs.declared.put.Put.{Put}
use Rattle.playout_buffer.specs.declared.put.Put.TheVariants.{Taken, Repeat, Outside}
use Rattle.playout_buffer.specs.declared.window.Window.{Window}

-- a payload for each of some packets
abbrev pub Payloads : Type 0
Payloads = FinMap nat_cmp (List ℕ)

-- whether the last frame of packet i is played at tick t or later
abbrev pub is_awaited : Window → (t i : ℕ) → Bool
is_awaited w t i = nat_le t (last_frame w.frames i + w.playout)

-- what is said of a payload, by its candidate
abbrev pub put_answer : Payloads → Option ℕ → Put
put_answer held None = Outside
put_answer held (Some i) = if contains_key held i then Repeat i else Taken i

-- what is held after a payload, by its candidate: the first payload of a packet stays
abbrev pub payloads_with : Payloads → Option ℕ → List ℕ → Payloads
payloads_with held None payload = held
payloads_with held (Some i) payload = if contains_key held i then held else insert held i payload

-- the octets of frame n in the payload of its packet
abbrev pub part_of : Window → ℕ → List ℕ → List ℕ
part_of w n payload = take w.octets (drop (n % w.frames * w.octets) payload)

-- the octets of frame n, where the payload of its packet is held
abbrev pub part_in : Window → Payloads → ℕ → Option (List ℕ)
part_in w held n = option_map (part_of w n) (get held (n / w.frames))
