-- Where the bits of samples stand by mapping method 3, backward compatible (CPRI Specification V7.0, section 4.2.7.2).
use Rattle.std.specs.Prelude.{ℕ, ◌+◌, ◌*◌, ◌/◌, ◌%◌, slice_index}
use Rattle.sample_bits.specs.BlockPlace.{BlockPlace}
use Rattle.axc_compatible_map.specs.Container.{frame_containers, sample_containers}

-- where bit b of sample r stands, in a block of s samples of I and Q in m bits each in k basic frames
unfoldable pub place_in_block : (m s k r b : ℕ) → BlockPlace
place_in_block m s k r b =
    let u = slice_index (sample_containers s k) r in
    record { phase = u / frame_containers s k; bit = u % frame_containers s k * (2 * m) + b }
