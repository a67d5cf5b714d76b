-- The bits of the samples of a good plan.
use Rattle.std.proofs.Common.{◌≡◌, ℕ, ◌+◌, ◌*◌, ◌/◌, ◌%◌, ◌<◌, ◌≤◌, ◌⊎◌, List, length, get_or, slice_get, Some, arith, ap, sym, subst, ◌∙◌, inl, inr}
use Rattle.std.specs.List.{HoldsAt}
use Rattle.std.proofs.lemmas.Bool.{cases_order}
use Rattle.std.proofs.lemmas.Option.{slice_get_within}
use Rattle.std.proofs.lemmas.Nat.{div-add-mod', mod_below, mul-le}
use Rattle.sample_bits.specs.SampleRate.{IsSampleRate, IsSampleWidth}
use Rattle.sample_bits.specs.BlockPlace.{BlockPlace}
use Rattle.axc_sample_map.specs.Laws as sample_map
use Rattle.axc_compatible_map.specs.Laws as compatible_map
use Rattle.carrier_plan.specs.declared.plan.Carrier.{Carrier}
use Rattle.carrier_plan.specs.declared.plan.Method.{Method}
use Rattle.carrier_plan.specs.declared.plan.Method.TheVariants.{Sample, Compatible}
use Rattle.carrier_plan.specs.declared.plan.Plan.{Plan}
use Rattle.plan_checker.specs.SampleRate.{HasSampleRate, HasSampleWidth}
use Rattle.plan_checker.specs.Container.{HasPrescribedSize, HasSeparateBits, HoldsBit, container_size, size_by}
use Rattle.plan_checker.specs.Place.{BitPlace, iq_bit, place_in_block, place_of}
use Rattle.plan_checker.specs.Rules.{IsGood}
use Rattle.plan_checker.specs.Rules.Rule.{SampleRate, SampleWidth, ContainerSize, SeparateBits}
use Rattle.plan_checker.specs.Laws.{EachBitHasOneSample}
use Rattle.plan_checker.proofs.IqBits.{in_pieces, distinct_bits}
use Rattle.plan_checker.proofs.Places.{at_place, holds_at, some_frames_of_block}
use Rattle.plan_checker.proofs.Separate.{EachBitHasOneCarrier-holds}

within_read : {A : Type 0} (xs : List A) (i : ℕ) (x : A) → slice_get xs i ≡ Some x → i < length xs
within_read xs i x read = slice_get_within xs i x read

not_less : (k a b f g : ℕ) → f < k → a * k + f ≡ b * k + g → ¬ (a < b)
not_less k a b f g low same less = let step : (a + 1) * k ≤ b * k = mul-le (a + 1) k b k (omega arith) (omega arith) in omega (arith, step)

-- frame f of block b, of k frames, is of one block and at one place in it
one_block : (k a b f g : ℕ) → f < k → g < k → a * k + f ≡ b * k + g → (a ≡ b) × (f ≡ g)
one_block k a b f g low-f low-g same =
    elim (cases_order a b) [
      | inl e ↦ (e, (let frames : a * k ≡ b * k = ap (λ n. n * k) e in omega arith))
      | inr apart ↦ elim apart [
        | inl less ↦ absurd (not_less k a b f g low-f same less)
        | inr more ↦ absurd (not_less k b a g f low-g (sym same) more)
      ]
    ]

-- what a good plan says of a carrier of it
record IsGoodCarrier (p : Plan) (i : ℕ) (c : Carrier) : Type 0 where
  rate : HasSampleRate c
  width : HasSampleWidth c
  size : HasPrescribedSize c
  separate : HasSeparateBits p.carriers i c

good_carrier : (p : Plan) (i : ℕ) (c : Carrier) → IsGood p → slice_get p.carriers i ≡ Some c → IsGoodCarrier p i c
good_carrier p i c good read =
    let lt = within_read p.carriers i c read in
    record {
      rate = at_place HasSampleRate p.carriers i c read (good SampleRate i lt);
      width = at_place HasSampleWidth p.carriers i c read (good SampleWidth i lt);
      size = at_place HasPrescribedSize p.carriers i c read (good ContainerSize i lt);
      separate = at_place (HasSeparateBits p.carriers i) p.carriers i c read (good SeparateBits i lt);
    }

module _ (sample-within : sample_map.PlacesAreWithin) (sample-distinct : sample_map.PlacesAreDistinct) (compatible-within : compatible_map.PlacesAreWithin) (compatible-distinct : compatible_map.PlacesAreDistinct) where
  -- the laws of both maps
  within : (method : Method) (m s k r b : ℕ) → IsSampleWidth m → IsSampleRate s k → r < s → b < 2 * m
      → ((place_in_block method m s k r b).phase < k) × ((place_in_block method m s k r b).bit < size_by method m s k)
  within Sample = sample-within
  within Compatible = compatible-within

  distinct : (method : Method) (m s k r b other d : ℕ) → IsSampleWidth m → IsSampleRate s k → r < s → b < 2 * m → other < s → d < 2 * m
      → (place_in_block method m s k r b).phase ≡ (place_in_block method m s k other d).phase
      → (place_in_block method m s k r b).bit ≡ (place_in_block method m s k other d).bit → (r ≡ other) × (b ≡ d)
  distinct Sample = sample-distinct
  distinct Compatible = compatible-distinct

  -- a bit of a sample stands in its carrier's container
  pub held : (p : Plan) (i : ℕ) (c : Carrier) (j b : ℕ) → IsGood p → slice_get p.carriers i ≡ Some c → b < 2 * c.m → HoldsBit c (place_of c j b).bit
  held p i c j b good read low =
      let is = good_carrier p i c good read in
      let inside = within c.method c.m c.s c.k (j % c.s) b is.width is.rate (mod_below j c.s is.rate.some_samples) low in
      in_pieces c.pieces (place_in_block c.method c.m c.s c.k (j % c.s) b).bit (omega (arith, inside.1, is.size.prescribed))

  -- of one carrier
  one_sample : (p : Plan) (i : ℕ) (c : Carrier) (j l b d : ℕ) → IsGood p → slice_get p.carriers i ≡ Some c → b < 2 * c.m → d < 2 * c.m → place_of c j b ≡ place_of c l d → (j ≡ l) × (b ≡ d)
  one_sample p i c j l b d good read low-b low-d same =
      let is = good_carrier p i c good read in
      let low-j = mod_below j c.s is.rate.some_samples in
      let low-l = mod_below l c.s is.rate.some_samples in
      let here = place_in_block c.method c.m c.s c.k (j % c.s) b in
      let there = place_in_block c.method c.m c.s c.k (l % c.s) d in
      let in-here = within c.method c.m c.s c.k (j % c.s) b is.width is.rate low-j low-b in
      let in-there = within c.method c.m c.s c.k (l % c.s) d is.width is.rate low-l low-d in
      let frames : (j / c.s + 1) * c.k + here.phase ≡ (l / c.s + 1) * c.k + there.phase = ap (λ (x : BitPlace). x.frame) same in
      let bits : iq_bit c.pieces here.bit ≡ iq_bit c.pieces there.bit = ap (λ (x : BitPlace). x.bit) same in
      let block = one_block c.k (j / c.s + 1) (l / c.s + 1) here.phase there.phase in-here.0 in-there.0 frames in
      let bit = distinct_bits c.pieces here.bit there.bit is.separate.own (omega (arith, in-here.1, is.size.prescribed)) (omega (arith, in-there.1, is.size.prescribed)) bits in
      let sample = distinct c.method c.m c.s c.k (j % c.s) b (l % c.s) d is.width is.rate low-j low-b low-l low-d block.1 bit in
      let blocks : j / c.s ≡ l / c.s = omega (arith, block.0) in
      (sym (div-add-mod' j c.s) ∙ (ap (λ q. q * c.s + j % c.s) blocks ∙ (ap (λ r. l / c.s * c.s + r) sample.0 ∙ div-add-mod' l c.s)), sample.1)

  pub EachBitHasOneSample-holds : EachBitHasOneSample
  EachBitHasOneSample-holds p i other j l b d x y good read-x read-y low-b low-d same =
      let bit : (place_of x j b).bit ≡ (place_of y l d).bit = ap (λ (z : BitPlace). z.bit) same in
      let held-x = subst (HoldsBit x) bit (held p i x j b good read-x low-b) in
      let held-y = held p other y l d good read-y low-d in
      let one = EachBitHasOneCarrier-holds p (place_of y l d).bit i other good (within_read p.carriers i x read-x) (within_read p.carriers other y read-y) (holds_at (λ c. HoldsBit c (place_of y l d).bit) p.carriers i x read-x held-x) (holds_at (λ c. HoldsBit c (place_of y l d).bit) p.carriers other y read-y held-y) in
      let carriers : x ≡ y = (let e = sym read-x ∙ (ap (slice_get p.carriers) one ∙ read-y) in cc) in
      let rest = one_sample p other y j l b d good read-y (subst (λ (c : Carrier). b < 2 * c.m) carriers low-b) low-d (subst (λ c. place_of c j b ≡ place_of y l d) carriers same) in
      (one, rest.0, rest.1)
