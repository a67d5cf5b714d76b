-- Text that is gathered before it is written. This is the project's own.
use Rattle.std.specs.Prelude.{◌≡◌, ℕ, List, ◌++◌}
use Rattle.link_base.specs.Sink.{Taken, Appends, AppendsFront}

-- how many octets of text are held at most
abbrev pub text_capacity : ℕ
text_capacity = 16384

-- More text was gathered after that in hand: what was written of both and what is in hand are the two, in their order.
pub record Gathers (more hand : List ℕ) (old : Taken) (hand' : List ℕ) (new : Taken) : Type 0 where
  pub moved : List ℕ
  pub written : Appends moved old new
  pub kept : hand ++ more ≡ moved ++ hand'

-- A write failed: a front of the text in hand and of what was to follow it was written.
abbrev pub BreaksOff : List ℕ → List ℕ → Taken → Taken → Type 0
BreaksOff more hand old new = AppendsFront (hand ++ more) old new
