-- Laws over the places of the bits of a block. This is the project's own.
use Rattle.std.specs.Prelude.{ℕ, ◌≡◌, ◌+◌, ◌*◌, ◌<◌, ◌≤◌}
use Rattle.std.specs.Int.{div_ceil}
use Rattle.sample_bits.specs.SampleRate.{IsSampleRate, IsSampleWidth}
use Rattle.axc_compatible_map.specs.Container.{prescribed_size}
use Rattle.axc_compatible_map.specs.Place.{place_in_block}

-- Each bit of a sample stands within the container of one of the k frames.
abbrev pub PlacesAreWithin : Type 0
PlacesAreWithin =
    (m s k r b : ℕ) → IsSampleWidth m → IsSampleRate s k → r < s → b < 2 * m
    → ((place_in_block m s k r b).phase < k) × ((place_in_block m s k r b).bit < prescribed_size m s k)

-- No two bits of samples stand at the same place.
abbrev pub PlacesAreDistinct : Type 0
PlacesAreDistinct =
    (m s k r b other c : ℕ) → IsSampleWidth m → IsSampleRate s k → r < s → b < 2 * m → other < s → c < 2 * m
    → (place_in_block m s k r b).phase ≡ (place_in_block m s k other c).phase
    → (place_in_block m s k r b).bit ≡ (place_in_block m s k other c).bit → (r ≡ other) × (b ≡ c)

-- The last frame in which a bit of sample r stands is at most ceil((r + 1) * k / s) - 1.
abbrev pub PlacesAreInTime : Type 0
PlacesAreInTime =
    (m s k r b : ℕ) → IsSampleWidth m → IsSampleRate s k → r < s → b < 2 * m
    → (place_in_block m s k r b).phase + 1 ≤ div_ceil ((r + 1) * k) s
