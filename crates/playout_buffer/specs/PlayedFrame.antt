-- Where a frame stands among the packets of a flow, which have so many frames each, and the packets in so many slots. This is
-- the project's own.
use Rattle.std.specs.Prelude.{◌≡◌, ℕ, ◌/◌, ◌%◌}
use Rattle.playout_buffer.specs.declared.played_frame.PlayedFrame.{PlayedFrame}

pub record IsPlayedFrame (frames cap n : ℕ) (f : PlayedFrame) : Type 0 where
  pub number : f.number ≡ n / frames
  pub slot : f.slot ≡ n / frames % cap
  pub place : f.place ≡ n % frames
