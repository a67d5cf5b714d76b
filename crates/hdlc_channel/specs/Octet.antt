-- What a reader of the slow channel does with the bits of an octet, up to the first that completes something.
use Rattle.std.specs.Prelude.{◌≡◌, ℕ, ◌+◌, ◌-◌, ◌<◌, Bool, List, ◌++◌, length, take, Option, None}
use Rattle.hdlc_channel.specs.SlowText.{slow_at}
use Rattle.hdlc_channel.specs.Reader.{SlowView, StandsFor}
use Rattle.hdlc_channel.specs.declared.slow_event.SlowEvent.{SlowEvent}

-- Of bits that are handed to a reader that stands for others, so many were taken, of which the last has this answer and those
-- before it have none.
pub record TakesBits (given : List Bool) (taken : ℕ) (answer : Option SlowEvent) (new : SlowView) (bits : List Bool) : Type 0 where
  pub quiet : (k : ℕ) → k + 1 < taken → slow_at (bits ++ given) (length bits + k) ≡ None
  pub last : slow_at (bits ++ given) (length bits + (taken - 1)) ≡ answer
  pub stands : StandsFor new (bits ++ take taken given)
