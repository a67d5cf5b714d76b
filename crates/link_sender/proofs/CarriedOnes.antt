-- Whether an IQ bit of a frame is 1, by a search over the samples that can stand in the frame.
use Rattle.std.proofs.Common.{◌≡◌, ℕ, ◌+◌, ◌*◌, ◌/◌, ◌<◌, ◌≤◌, Bool, true, length, get_or, Option, Some, None, slice_get, eqb, Decides, sym, refl, ap, ◌∙◌, arith, ◌&&◌}
use Rattle.std.specs.Bool.{one_answer}
use Rattle.std.specs.List.{range_with_len}
use Rattle.std.proofs.lemmas.Bool.{and_from, and_parts, eq-eqb, eqb-true, false≢true}
use Rattle.std.proofs.lemmas.List.Folds.{Any-from_list_any, list_any_at}
use Rattle.std.proofs.lemmas.List.FromFn.{get_or-range_with_len, length-range_with_len}
use Rattle.std.proofs.lemmas.Nat.{div-add-mod', mod_below, mul-le}
use Rattle.carrier_plan.specs.declared.plan.Carrier.{Carrier}
use Rattle.carrier_plan.specs.declared.plan.Plan.{Plan}
use Rattle.plan_checker.specs.Place.{place_of}
use Rattle.plan_checker.specs.Rules.{IsGood}
use Rattle.sample_bits.specs.Samples.{sample_bit}
use Rattle.link_sender.specs.Frames.{CarriesOne}
use Rattle.link_sender.specs.Stream.{Stream, sample_at}
use Rattle.link_sender.specs.Whole.{carrier_gives_one, is_one, sample_gives_one, some_below}
use Rattle.link_sender.proofs.GoodCarriers.{good_carrier}

-- ---- a search below a number

found_below : (n : ℕ) (test : ℕ → Bool) → some_below n test ≡ true → (k : ℕ) × (k < n) × (test k ≡ true)
found_below n test found =
    let any = Any-from_list_any test (range_with_len 0 n) found in
    let lt : any.0 < n = omega (arith, any.2, length-range_with_len 0 n) in
    let is : any.1 ≡ any.0 = sym any.3 ∙ (get_or-range_with_len 0 n any.0 any.1 lt ∙ omega arith) in
    (any.0, lt, ap test (sym is) ∙ any.4)

some_below_at : (n : ℕ) (test : ℕ → Bool) (k : ℕ) → k < n → test k ≡ true → some_below n test ≡ true
some_below_at n test k lt passes =
    let is : get_or (range_with_len 0 n) k 0 ≡ k = get_or-range_with_len 0 n k 0 lt ∙ omega arith in
    list_any_at test (range_with_len 0 n) k 0 (omega (arith, length-range_with_len 0 n)) (ap test is ∙ passes)

-- ---- what it finds

found_in : (p : Plan) (σ : Stream) (n x c : ℕ) (found : Option Carrier) → slice_get p.carriers c ≡ found → carrier_gives_one σ n x c found ≡ true → CarriesOne p σ n x
found_in p σ n x c None read gives = absurd (false≢true gives)
found_in p σ n x c (Some carrier) read gives =
    let sample = found_below (n * carrier.s) (λ j. some_below (2 * carrier.m) (sample_gives_one σ n x c carrier j)) gives in
    let j = sample.0 in
    let bit = found_below (2 * carrier.m) (sample_gives_one σ n x c carrier j) sample.2 in
    let b = bit.0 in
    let here = place_of carrier j b in
    let parts = and_parts (eqb here.frame n && eqb here.bit x) (eqb (sample_bit (sample_at σ c j) b) 1) bit.2 in
    let place = and_parts (eqb here.frame n) (eqb here.bit x) parts.0 in
    record {
      carrier = c;
      number = j;
      place = b;
      stands = record { carrier = carrier; at = read; within = bit.1; frame = eqb-true here.frame n place.0; bit = eqb-true here.bit x place.1 };
      one = eqb-true (sample_bit (sample_at σ c j) b) 1 parts.1;
    }

found : (p : Plan) (σ : Stream) (n x : ℕ) → is_one p σ n x ≡ true → CarriesOne p σ n x
unfolding is_one
found p σ n x one =
    let place = found_below (length p.carriers) (λ c. carrier_gives_one σ n x c (slice_get p.carriers c)) one in
    found_in p σ n x place.0 (slice_get p.carriers place.0) refl place.2

-- ---- what it does not miss

-- a sample of block q has no bit in the frames of the blocks up to q
number_below : (j s k phase n : ℕ) → 1 ≤ s → 1 ≤ k → (j / s + 1) * k + phase ≡ n → j < n * s
number_below j s k phase n some_samples some_frames frame =
    let blocks = mul-le (j / s + 1) 1 (j / s + 1) k (omega arith) some_frames in
    let before : j / s + 1 ≤ n = omega arith in
    let samples = mul-le (j / s + 1) s n s before (omega arith) in
    let low = mod_below j s some_samples in
    let whole = div-add-mod' j s in
    omega arith

not_missed : (p : Plan) (σ : Stream) (n x : ℕ) → IsGood p → CarriesOne p σ n x → is_one p σ n x ≡ true
unfolding is_one
not_missed p σ n x good one =
    let c = one.carrier in
    let j = one.number in
    let b = one.place in
    let carrier = one.stands.carrier in
    let here = place_of carrier j b in
    let is = good_carrier p c carrier good one.stands.at in
    let low : j < n * carrier.s = number_below j carrier.s carrier.k _ n is.rate.some_samples is.some_frames one.stands.frame in
    let bit : sample_gives_one σ n x c carrier j b ≡ true =
    and_from (eqb here.frame n && eqb here.bit x) (eqb (sample_bit (sample_at σ c j) b) 1)
    (and_from (eqb here.frame n) (eqb here.bit x) (eq-eqb here.frame n one.stands.frame) (eq-eqb here.bit x one.stands.bit))
    (eq-eqb (sample_bit (sample_at σ c j) b) 1 one.one) in
    let sample = some_below_at (2 * carrier.m) (sample_gives_one σ n x c carrier j) b one.stands.within bit in
    let gives : carrier_gives_one σ n x c (Some carrier) ≡ true = some_below_at (n * carrier.s) (λ i. some_below (2 * carrier.m) (sample_gives_one σ n x c carrier i)) j low sample in
    some_below_at (length p.carriers) (λ d. carrier_gives_one σ n x d (slice_get p.carriers d)) c is.inside (ap (carrier_gives_one σ n x c) one.stands.at ∙ gives)

pub is_one-decides : (p : Plan) (σ : Stream) (n x : ℕ) → IsGood p → Decides (is_one p σ n x) (CarriesOne p σ n x)
is_one-decides p σ n x good = (found p σ n x, not_missed p σ n x good)

-- what tells a bit that is 1 tells whether the search finds it
pub is_one-by : (p : Plan) (σ : Stream) (n x bit : ℕ) → IsGood p → Decides (eqb bit 1) (CarriesOne p σ n x) → eqb bit 1 ≡ is_one p σ n x
is_one-by p σ n x bit good decides = one_answer (eqb bit 1) (is_one p σ n x) decides (is_one-decides p σ n x good)
