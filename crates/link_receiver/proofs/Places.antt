-- Where the bits of a sample stand, and which samples leave with a frame.
use Rattle.std.proofs.Common.{◌≡◌, ℕ, ◌+◌, ◌-◌, ◌*◌, ◌/◌, ◌%◌, ◌<◌, ◌≤◌, slice_get, slice_index, Some, sym, ap, ◌∙◌, arith}
use Rattle.std.specs.Int.{div_ceil}
use Rattle.std.proofs.lemmas.Nat.{mul-le, div-add-mod', div-mul-add, mod-mul-add, mod_below}
use Rattle.std.proofs.lemmas.Option.{slice_get_within}
use Rattle.sample_bits.specs.SampleRate.{IsSampleRate, IsSampleWidth}
use Rattle.sample_bits.proofs.RateLemmas.{div_ceil-le, lt-cancel, some_frames}
use Rattle.axc_sample_map.proofs.Places as sample_map
use Rattle.axc_compatible_map.proofs.Places as compatible_map
use Rattle.carrier_plan.specs.declared.plan.Carrier.{Carrier}
use Rattle.carrier_plan.specs.declared.plan.Method.{Method}
use Rattle.carrier_plan.specs.declared.plan.Method.TheVariants.{Sample, Compatible}
use Rattle.carrier_plan.specs.declared.plan.Plan.{Plan}
use Rattle.plan_checker.specs.Container.{HasPrescribedSize, size_by}
use Rattle.plan_checker.specs.Place.{place_in_block, place_of, place_of_block}
use Rattle.plan_checker.specs.Rules.{IsGood}
use Rattle.plan_checker.specs.Rules.Rule.{SampleRate, SampleWidth, ContainerSize}
use Rattle.plan_checker.specs.Run.{block_lengths, block_samples, delay_of, samples_before}
use Rattle.plan_checker.specs.SampleRate.{HasSampleRate, HasSampleWidth}
use Rattle.plan_checker.proofs.Places.{at_place, number_at}

-- what a good plan says of a carrier of it
pub record IsGoodCarrier (p : Plan) (c : ℕ) (carrier : Carrier) : Type 0 where
  pub rate : IsSampleRate carrier.s carrier.k
  pub width : IsSampleWidth carrier.m
  pub size : HasPrescribedSize carrier
  pub some_frames : 1 ≤ carrier.k
  pub samples : slice_index (block_samples p) c ≡ carrier.s
  pub lengths : slice_index (block_lengths p) c ≡ carrier.k

pub good_carrier : (p : Plan) (c : ℕ) (carrier : Carrier) → IsGood p → slice_get p.carriers c ≡ Some carrier → IsGoodCarrier p c carrier
good_carrier p c carrier good read =
    let lt = slice_get_within p.carriers c carrier read in
    let rate = at_place HasSampleRate p.carriers c carrier read (good SampleRate c lt) in
    record {
      rate = rate;
      width = at_place HasSampleWidth p.carriers c carrier read (good SampleWidth c lt);
      size = at_place HasPrescribedSize p.carriers c carrier read (good ContainerSize c lt);
      some_frames = some_frames carrier.s carrier.k rate;
      samples = number_at (λ (x : Carrier). x.s) p.carriers c carrier read;
      lengths = number_at (λ (x : Carrier). x.k) p.carriers c carrier read;
    }

pub delay_of-carrier : (p : Plan) (c : ℕ) (carrier : Carrier) → IsGoodCarrier p c carrier → delay_of p c ≡ p.playout + carrier.k
delay_of-carrier p c carrier is = ap (λ k. p.playout + k) is.lengths

pub samples_before-carrier : (p : Plan) (c : ℕ) (carrier : Carrier) (n : ℕ) → IsGoodCarrier p c carrier → samples_before p c n ≡ n * carrier.s / carrier.k
samples_before-carrier p c carrier n is =
    ap (λ s. n * s / slice_index (block_lengths p) c) is.samples ∙ ap (λ k. n * carrier.s / k) is.lengths

-- ---- the laws of both maps

pub places_within : (method : Method) (m s k r b : ℕ) → IsSampleWidth m → IsSampleRate s k → r < s → b < 2 * m
    → ((place_in_block method m s k r b).phase < k) × ((place_in_block method m s k r b).bit < size_by method m s k)
places_within Sample = sample_map.PlacesAreWithin-holds
places_within Compatible = compatible_map.PlacesAreWithin-holds

pub places_in_time : (method : Method) (m s k r b : ℕ) → IsSampleWidth m → IsSampleRate s k → r < s → b < 2 * m
    → (place_in_block method m s k r b).phase + 1 ≤ div_ceil ((r + 1) * k) s
places_in_time Sample = sample_map.PlacesAreInTime-holds
places_in_time Compatible = compatible_map.PlacesAreInTime-holds

-- ---- quotients

pub quotient_shift : (a x k : ℕ) → 1 ≤ k → (a * k + x) / k ≡ a + x / k
quotient_shift a x k some =
    let split = div-add-mod' x k in
    let low = mod_below x k some in
    let whole : a * k + x ≡ (a + x / k) * k + x % k = omega (arith, split) in
    ap (λ n. n / k) whole ∙ div-mul-add (a + x / k) k (x % k) low

-- the samples before a frame of a block
pub samples_shift : (b φ s k : ℕ) → 1 ≤ k → (b * k + φ) * s / k ≡ b * s + φ * s / k
samples_shift b φ s k some =
    let split : (b * k + φ) * s ≡ b * s * k + φ * s = omega arith in
    ap (λ n. n / k) split ∙ quotient_shift (b * s) (φ * s) k some

pub samples_before-block : (p : Plan) (c : ℕ) (carrier : Carrier) → IsGoodCarrier p c carrier → (block φ : ℕ)
    → samples_before p c (block * carrier.k + φ) ≡ block * carrier.s + φ * carrier.s / carrier.k
samples_before-block p c carrier is block φ =
    samples_before-carrier p c carrier (block * carrier.k + φ) is ∙ samples_shift block φ carrier.s carrier.k is.some_frames

-- one of the samples before it is no later
pub before_product : (r x k : ℕ) → 1 ≤ k → r < x / k → (r + 1) * k ≤ x
before_product r x k some less =
    let split = div-add-mod' x k in
    let product = mul-le (r + 1) k (x / k) k (omega arith) (omega arith) in
    omega (arith, split, product)

-- a sample that leaves with the first frames of a block is one of the block
pub leaves_within : (r φ s k : ℕ) → 1 ≤ s → 1 ≤ k → φ < k → r < (φ + 1) * s / k → r < s
leaves_within r φ s k some_s some low less =
    let time = before_product r ((φ + 1) * s) k some less in
    let most = mul-le (φ + 1) s k s (omega arith) (omega arith) in
    lt-cancel r s k (omega (arith, time, most))

-- and its bits stand in these frames
pub leaves_in_time : (method : Method) (m s k r b φ : ℕ) → IsSampleWidth m → IsSampleRate s k → 1 ≤ k → r < s → b < 2 * m → r < (φ + 1) * s / k
    → (place_in_block method m s k r b).phase ≤ φ
leaves_in_time method m s k r b φ width rate some low small less =
    let time = before_product r ((φ + 1) * s) k some less in
    let last = div_ceil-le ((r + 1) * k) s (φ + 1) rate.some_samples time in
    let before = places_in_time method m s k r b width rate low small in
    omega (arith, before, last)

-- frames of earlier blocks do not count
earlier_blocks : (s k q r n : ℕ) → 1 ≤ s → 1 ≤ k → (q * s + r + 1) * k ≤ (n + 1) * s → (q * k ≤ n) × ((r + 1) * k ≤ (n + 1 - q * k) * s)
earlier_blocks s k q r n some_s some time =
    let one = mul-le 1 1 (r + 1) k (omega arith) some in
    let less : q * k < n + 1 = lt-cancel (q * k) (n + 1) s (omega (arith, time, one)) in
    let d = n + 1 - q * k in
    let whole : n + 1 ≡ q * k + d = omega (arith, less) in
    let product : (n + 1) * s ≡ (q * k + d) * s = ap (λ x. x * s) whole in
    let rest : (r + 1) * k ≤ d * s = omega (arith, time, product) in
    (omega (arith, less), rest)

-- the bits of a sample that was handed in by tick n stand in frames by n + k
pub frame_in_time : (carrier : Carrier) (n j b : ℕ) → IsSampleWidth carrier.m → IsSampleRate carrier.s carrier.k → 1 ≤ carrier.k
    → j < (n + 1) * carrier.s / carrier.k → b < 2 * carrier.m → (place_of carrier j b).frame ≤ n + carrier.k
frame_in_time carrier n j b width rate some less small =
    let s = carrier.s in
    let k = carrier.k in
    let q = j / s in
    let r = j % s in
    let split = div-add-mod' j s in
    let low = mod_below j s rate.some_samples in
    let product : (j + 1) * k ≡ (q * s + r + 1) * k = ap (λ x. (x + 1) * k) (sym split) in
    let time = before_product j ((n + 1) * s) k some less in
    let rest = earlier_blocks s k q r n rate.some_samples some (omega (arith, time, product)) in
    let last = div_ceil-le ((r + 1) * k) s (n + 1 - q * k) rate.some_samples rest.1 in
    let phase = (place_in_block carrier.method carrier.m s k r b).phase in
    let before = places_in_time carrier.method carrier.m s k r b width rate low small in
    let inside : q * k + phase ≤ n = omega (arith, rest.0, last, before) in
    omega (arith, inside)

-- ---- a sample of a block

pub place_of-block : (carrier : Carrier) (block r b : ℕ) → r < carrier.s
    → place_of carrier (block * carrier.s + r) b ≡ place_of_block carrier block (place_in_block carrier.method carrier.m carrier.s carrier.k r b)
place_of-block carrier block r b low =
    let j = block * carrier.s + r in
    ap (λ q. place_of_block carrier q (place_in_block carrier.method carrier.m carrier.s carrier.k (j % carrier.s) b)) (div-mul-add block carrier.s r low)
    ∙ ap (λ i. place_of_block carrier block (place_in_block carrier.method carrier.m carrier.s carrier.k i b)) (mod-mul-add block carrier.s r low)
