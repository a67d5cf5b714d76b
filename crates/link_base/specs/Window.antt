-- When the packets of a flow arrive and how long they are held, over plain numbers. Windows and playout are this
-- project's own. Times are ticks, which are basic frames.
use Rattle.std.specs.Prelude.{ℕ, ◌+◌, ◌-◌, ◌*◌, ◌≤◌}
use Rattle.std.specs.Int.{div_ceil}
use Rattle.link_base.specs.Count.{HasCount}

-- the last of the basic frames of packet i, which is also the tick at which the packet is whole
abbrev pub last_frame : ℕ → ℕ → ℕ
last_frame frames i = (i + 1) * frames - 1

-- packet i may arrive at tick t: from lmin to lmax ticks after it is whole
abbrev pub IsOpen : (frames lmin lmax t i : ℕ) → Type 0
IsOpen frames lmin lmax t i = (last_frame frames i + lmin ≤ t) × (t ≤ last_frame frames i + lmax)

-- packet i may have to be held at tick t: from the tick at which it may arrive first to that at which its last frame
-- is played
abbrev pub IsHeld : (frames lmin playout t i : ℕ) → Type 0
IsHeld frames lmin playout t i = (last_frame frames i + lmin ≤ t) × (t ≤ last_frame frames i + playout)

-- the greatest number of packets that may have to be held at one tick
abbrev pub most_held : (frames lmin playout : ℕ) → ℕ
most_held frames lmin playout = div_ceil (playout - lmin + 1) frames

-- n is the largest count of the packets held at a tick, over all ticks
pub record IsMostHeld (frames lmin playout n : ℕ) : Type 0 where
  pub reached_at : ℕ
  pub reached : HasCount (IsHeld frames lmin playout reached_at) n
  pub bound : (t m : ℕ) → HasCount (IsHeld frames lmin playout t) m → m ≤ n
