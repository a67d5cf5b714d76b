-- What a window has to meet, so that its packets are told apart and there is room for them. This project's own.
use Rattle.std.specs.Prelude.{ℕ, ◌+◌, ◌-◌, ◌*◌, ◌/◌, ◌^◌, ◌<◌, ◌≤◌}
use Rattle.link_base.specs.Count.{HasCount}
use Rattle.link_base.specs.Window.{IsHeld}
use Rattle.playout_buffer.specs.declared.window.Window.{Window}

-- the octets of a payload: those of each frame of the packet
abbrev pub payload_octets : Window → ℕ
payload_octets w = w.frames * w.octets

pub record IsWindow (w : Window) : Type 0 where
  -- a packet has some frames, and its payload fits a packet of the transport
  pub some_frames : 1 ≤ w.frames
  pub few_frames : w.frames ≤ 64
  pub some_octets : 1 ≤ payload_octets w
  pub few_octets : payload_octets w ≤ 1_492
  -- a packet may arrive at some tick, and its first frame is played no earlier than its last chance to arrive
  pub order : w.lmin ≤ w.lmax
  pub soon : w.lmax ≤ 100_000
  pub in_time : w.frames - 1 + w.lmax ≤ w.playout
  pub short_playout : w.playout ≤ 200_000
  -- there are more sequence numbers than packets that may arrive at one tick
  pub some_p : 1 ≤ w.p
  pub small_p : w.p ≤ 65_536
  pub some_q : 1 ≤ w.q
  pub small_q : w.q ≤ 65_536
  pub enough_numbers : (w.lmax - w.lmin) / w.frames < w.p * w.q
  -- there is room for the packets that may have to be held at a tick, whatever the tick
  pub some_room : 1 ≤ w.cap
  pub small_room : w.cap ≤ 4_096
  pub enough_room : (t n : ℕ) → HasCount (IsHeld w.frames w.lmin w.playout t) n → n ≤ w.cap
  pub few_packets : w.packets ≤ 2 ^ 41
