-- When the packets of a flow arrive and are played, and how they are numbered and held. This project's own.
use Rattle.std.specs.Prelude.{ℕ, ◌+◌, ◌-◌, ◌*◌, ◌/◌, ◌<◌, ◌≤◌}
use Rattle.carrier_plan.specs.declared.plan.Flow.{Flow}
use Rattle.link_base.specs.Count.{HasCount}
use Rattle.link_base.specs.Window.{IsHeld}

-- the window of a packet is not empty, and ends soon enough
abbrev pub HasWindow : Flow → Type 0
HasWindow f = (f.lmin ≤ f.lmax) × (f.lmax ≤ 100_000)

-- the first frame of a packet is played when its window has closed at the earliest, and soon enough
abbrev pub IsPlayedInTime : ℕ → Flow → Type 0
IsPlayedInTime playout f = (f.frames - 1 + f.lmax ≤ playout) × (playout ≤ 200_000)

-- a sequence number is a count below p and one below q, and there are more numbers than packets of which the windows
-- are open at one tick
pub record HasSequenceNumbers (f : Flow) : Type 0 where
  pub some_p : 1 ≤ f.p
  pub small_p : f.p ≤ 65_536
  pub some_q : 1 ≤ f.q
  pub small_q : f.q ≤ 65_536
  pub enough : (f.lmax - f.lmin) / f.frames < f.p * f.q

-- the buffer has room for the packets that may have to be held at a tick, whatever the tick
pub record HasRoom (playout : ℕ) (f : Flow) : Type 0 where
  pub some : 1 ≤ f.cap
  pub small : f.cap ≤ 4_096
  pub enough : (t n : ℕ) → HasCount (IsHeld f.frames f.lmin playout t) n → n ≤ f.cap
