-- The containers of an antenna-carrier by mapping method 3, backward compatible (CPRI Specification V7.0, section 4.2.7.2).
-- The places of stuffing are this project's own.
use Rattle.std.specs.Prelude.{ℕ, ◌-◌, ◌*◌, ◌/◌, ◌==◌, Bool, not, List, filter, if◌then◌else◌}
use Rattle.std.specs.Int.{div_ceil}
use Rattle.std.specs.List.{list_any, range_with_len}

-- how many containers, of one sample each, a basic frame has for s samples in k basic frames
abbrev pub frame_containers : ℕ → ℕ → ℕ
frame_containers s k = div_ceil s k

-- the bits of all containers of a basic frame, for I and Q in m bits each
abbrev pub prescribed_size : ℕ → ℕ → ℕ → ℕ
prescribed_size m s k = 2 * m * frame_containers s k

-- how many containers of a block are stuffing
abbrev pub stuffing_containers : ℕ → ℕ → ℕ
stuffing_containers s k = frame_containers s k * k - s

-- whether container u of a block is stuffing
abbrev pub is_stuffing : ℕ → ℕ → ℕ → Bool
is_stuffing u s k = list_any (λ i. i * k * frame_containers s k / stuffing_containers s k == u) (range_with_len 0 (stuffing_containers s k))

-- the containers of a block that carry its samples, in their order
abbrev pub sample_containers : ℕ → ℕ → List ℕ
sample_containers s k = filter (λ u. not (is_stuffing u s k)) (range_with_len 0 (frame_containers s k * k))

-- Bit b of container u of a block, given bit b of sample r: a container that is not stuffing carries the sample that stands
-- at its number times s by the number of all containers, rounded down.
abbrev pub bit_of_container : (s k : ℕ) → (ℕ → ℕ → ℕ) → (u b : ℕ) → ℕ
bit_of_container s k bits u b = if is_stuffing u s k then 0 else bits (u * s / (frame_containers s k * k)) b
