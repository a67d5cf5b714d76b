-- A sample's bits stand in every frame from the first to the last of its span, and which samples are missed.
use Rattle.std.proofs.Common.{◌≡◌, ◌==◌, ℕ, ◌+◌, ◌-◌, ◌*◌, ◌/◌, ◌<◌, ◌≤◌, Bool, true, false, IsTrue, refl, sym, ap, ◌∙◌, arith, ⊎_elim}
use Rattle.std.specs.Int.{bit_at}
use Rattle.std.specs.List.{range_with_len}
use Rattle.std.proofs.lemmas.Bool.{cases_lt, eq-eqb, ne_eqb}
use Rattle.std.proofs.lemmas.List.Folds.{list_any_at, list_any_none}
use Rattle.std.proofs.lemmas.List.FromFn.{length-range_with_len, get_or-range_with_len}
use Rattle.std.proofs.lemmas.Nat.{mul-le, le-div, div-mul-add}
use Rattle.carrier_plan.specs.declared.plan.Method.{Method}
use Rattle.carrier_plan.specs.declared.plan.Method.TheVariants.{Sample, Compatible}
use Rattle.plan_checker.specs.Place.{place_in_block}
use Rattle.sample_bits.specs.Blocks.{IsSpan}
use Rattle.sample_bits.specs.SampleRate.{IsSampleRate, IsSampleWidth}
use Rattle.sample_bits.proofs.RateLemmas.{some_frames}
use Rattle.axc_sample_map.specs.Container.{prescribed_size}
use Rattle.axc_sample_map.specs.Place.{place_in_block as sample_place}
use Rattle.axc_sample_map.proofs.Places.{some_bits}
use Rattle.axc_compatible_map.specs.Place.{place_in_block as compatible_place}
use Rattle.link_receiver_blocks.specs.declared.mapping.Mapping.{Mapping}
use Rattle.link_receiver_blocks.specs.Containers.{place_of_bit}
use Rattle.link_receiver_blocks.specs.Held.{is_missed}

-- ---- the frames of a span

sample_fills : (m s k r first last p : ℕ) → 1 ≤ prescribed_size m s k → IsSpan m (sample_place m s k r) first last → first ≤ p → p ≤ last
    → (b : ℕ) × (b < 2 * m) × ((sample_place m s k r b).phase ≡ p)
unfolding sample_place
sample_fills m s k r first last p some span from to =
    let n = prescribed_size m s k in
    let base : ℕ = 2 * m * r in
    let begin = span.first_holds in
    let end = span.last_holds in
    ⊎_elim
    (λ before.
    let early : p ≤ (base + begin.0) / n = le-div p (base + begin.0) n (omega arith) (omega arith) in
    (begin.0, begin.1, omega arith))
    (λ after.
    let b : ℕ = p * n - base in
    let whole : base + b ≡ p * n + 0 = omega arith in
    let most : p * n ≤ (base + end.0) / n * n = mul-le p n ((base + end.0) / n) n (omega arith) (omega arith) in
    (b, omega arith, ap (λ g. g / n) whole ∙ div-mul-add p n 0 (omega arith)))
    (cases_lt (p * n) base)

compatible_fills : (m s k r first last p : ℕ) → IsSpan m (compatible_place m s k r) first last → first ≤ p → p ≤ last
    → (b : ℕ) × (b < 2 * m) × ((compatible_place m s k r b).phase ≡ p)
unfolding compatible_place
compatible_fills m s k r first last p span from to =
    let begin = span.first_holds in
    let end = span.last_holds in
    (begin.0, begin.1, omega arith)

span_filled_by : (method : Method) (m s k r first last p : ℕ) → IsSampleWidth m → IsSampleRate s k → IsSpan m (place_in_block method m s k r) first last → first ≤ p → p ≤ last
    → (b : ℕ) × (b < 2 * m) × ((place_in_block method m s k r b).phase ≡ p)
span_filled_by Sample m s k r first last p width rate = sample_fills m s k r first last p (some_bits m s k (omega arith) (omega arith) (some_frames s k rate))
span_filled_by Compatible m s k r first last p width rate = compatible_fills m s k r first last p

-- ---- which samples are missed

pub missed_by : (w : Mapping) (missed r b : ℕ) → b < 2 * w.m → bit_at missed (place_of_bit w r b).phase ≡ 1 → is_missed w missed r ≡ true
unfolding is_missed
missed_by w missed r b small one =
    let test : ℕ → Bool = λ b. bit_at missed (place_of_bit w r b).phase == 1 in
    list_any_at test (range_with_len 0 (2 * w.m)) b 0 (omega (arith, length-range_with_len 0 (2 * w.m)))
    (ap test (get_or-range_with_len 0 (2 * w.m) b 0 small ∙ omega arith) ∙ eq-eqb (bit_at missed (place_of_bit w r b).phase) 1 one)

zero_not_one : (n : ℕ) → n ≡ 0 → n ≡ 1 → ⊥
zero_not_one n zero one = omega arith

pub not_missed : (w : Mapping) (missed r : ℕ) → ((b : ℕ) → b < 2 * w.m → bit_at missed (place_of_bit w r b).phase ≡ 0) → is_missed w missed r ≡ false
unfolding is_missed
not_missed w missed r none =
    let test : ℕ → Bool = λ b. bit_at missed (place_of_bit w r b).phase == 1 in
    list_any_none test (range_with_len 0 (2 * w.m))
    (λ b d h.
    let small : b < 2 * w.m = omega (arith, length-range_with_len 0 (2 * w.m)) in
    ap test (get_or-range_with_len 0 (2 * w.m) b d small ∙ omega arith) ∙ ne_eqb (bit_at missed (place_of_bit w r b).phase) 1 (λ one. let zero = none b small in absurd (zero_not_one (bit_at missed (place_of_bit w r b).phase) zero one)))

-- a test of the mask over the frames of a sample's span tells
pub missed_in_span : (w : Mapping) (missed r first last : ℕ) (found : Bool) → IsSampleWidth w.m → IsSampleRate w.s w.k → IsSpan w.m (place_of_bit w r) first last
    → (IsTrue found → (p : ℕ) × (first ≤ p) × (p ≤ last) × (bit_at missed p ≡ 1))
    → (found ≡ false → (p : ℕ) → first ≤ p → p ≤ last → bit_at missed p ≡ 0)
    → found ≡ is_missed w missed r
missed_in_span w missed r first last true width rate span one none =
    let found = one refl in
    let bit = span_filled_by w.method w.m w.s w.k r first last found.0 width rate span found.1 found.2 in
    sym (missed_by w missed r bit.0 bit.1 (ap (bit_at missed) bit.2 ∙ found.3))
missed_in_span w missed r first last false width rate span one none =
    sym (not_missed w missed r (λ b small. none refl (place_of_bit w r b).phase (span.from_first b small) (span.to_last b small)))
