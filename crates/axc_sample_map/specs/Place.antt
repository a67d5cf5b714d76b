-- Where the bits of samples stand by mapping method 1, IQ sample based (CPRI Specification V7.0, section 4.2.7.2): the
-- samples of a block stand one after another in its containers, and stuffing bits last.
use Rattle.std.specs.Prelude.{ℕ, ◌+◌, ◌*◌, ◌/◌, ◌%◌}
use Rattle.sample_bits.specs.BlockPlace.{BlockPlace}
use Rattle.axc_sample_map.specs.Container.{prescribed_size}

-- where bit b of sample r stands, in a block of s samples of I and Q in m bits each in k basic frames
unfoldable pub place_in_block : (m s k r b : ℕ) → BlockPlace
place_in_block m s k r b =
    let g = 2 * m * r + b in
    record { phase = g / prescribed_size m s k; bit = g % prescribed_size m s k }
