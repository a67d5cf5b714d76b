-- The numbers that name a basic frame of a run. Basic frames are counted n = 0, 1, 2 and so on
-- (CPRI Specification V7.0, section 4.2.7.3).
use Rattle.std.specs.Prelude.{ℕ, ◌/◌, ◌%◌}

-- X: the place of the basic frame within its hyperframe of 256 basic frames
abbrev pub frame_x : ℕ → ℕ
frame_x n = n % 256

-- Z: the place of its hyperframe within the radio frame of 150 hyperframes
abbrev pub frame_z : ℕ → ℕ
frame_z n = (n / 256) % 150

-- BFN: the number of its radio frame of 38,400 basic frames, which goes round at 4,096
abbrev pub frame_bfn : ℕ → ℕ
frame_bfn n = (n / 38400) % 4096
