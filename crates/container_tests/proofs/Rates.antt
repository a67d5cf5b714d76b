-- The rates that the tests use.
use Rattle.std.proofs.Common.{refl, lit≤}
use Rattle.sample_bits.specs.SampleRate.{IsSampleRate}
use Rattle.sample_bits.proofs.RateLemmas.{IsSampleRate-by}

pub usual_rates : IsSampleRate 4 1 × IsSampleRate 1 1 × IsSampleRate 1 2 × IsSampleRate 3 2 × IsSampleRate 2 3 × IsSampleRate 2 5 × IsSampleRate 35 12
usual_rates = (
  IsSampleRate-by 4 1 1 3 38_400 refl refl (lit≤ tt) (lit≤ tt) (lit≤ tt),
  IsSampleRate-by 1 1 1 0 38_400 refl refl (lit≤ tt) (lit≤ tt) (lit≤ tt),
  IsSampleRate-by 1 2 1 0 19_200 refl refl (lit≤ tt) (lit≤ tt) (lit≤ tt),
  IsSampleRate-by 3 2 1 1 19_200 refl refl (lit≤ tt) (lit≤ tt) (lit≤ tt),
  IsSampleRate-by 2 3 2 1 12_800 refl refl (lit≤ tt) (lit≤ tt) (lit≤ tt),
  IsSampleRate-by 2 5 3 1 7_680 refl refl (lit≤ tt) (lit≤ tt) (lit≤ tt),
  IsSampleRate-by 35 12 11 32 3_200 refl refl (lit≤ tt) (lit≤ tt) (lit≤ tt),
)
