-- A sender with more samples of a carrier.
use Rattle.std.proofs.Common.{◌≡◌, ◌≢◌, ℕ, ◌+◌, ◌-◌, ◌*◌, ◌/◌, ◌<◌, ◌≤◌, List, [], ◌++◌, length, get_or, set, slice_get, slice_index, Some, length-append, length-set, get_or-set_other, get_or-set_same, refl, sym, ap, ◌∙◌, subst, arith, inl, inr}
use Rattle.std.proofs.Math.Seq.{get_or-append_right}
use Rattle.std.proofs.lemmas.Bool.{cases_eq, cases_lt}
use Rattle.std.proofs.lemmas.List.{get_or_append_left, get_or_default}
use Rattle.std.proofs.lemmas.Nat.{div-add-mod', div_below, le-div, mod_below, mul-le}
use Rattle.std.proofs.lemmas.Option.{slice_get_within}
use Rattle.carrier_plan.specs.declared.plan.Carrier.{Carrier}
use Rattle.carrier_plan.specs.declared.plan.Plan.{Plan}
use Rattle.link_sender_blocks.specs.InHand.{SamplesView}
use Rattle.link_sender_blocks.specs.declared.mapping.Mapping.{Mapping}
use Rattle.plan_checker.specs.Run.{samples_before, samples_due}
use Rattle.sample_bits.specs.declared.iq.RawIq.{RawIq}
use Rattle.link_sender.specs.HandedIn.{with_samples}
use Rattle.link_sender.specs.Laws.{AgreesBefore}
use Rattle.link_sender.specs.Senders.{IsSender, KeepsSamples, SenderView, StandsFor, StandsForSamples, block_start, sent_sample, zero_sample}
use Rattle.link_sender.specs.Stream.{Stream, sample_at, samples_of}
use Rattle.link_sender.proofs.GoodCarriers.{IsGoodCarrier, good_carrier, samples_before-carrier}
use Rattle.link_sender.proofs.SampleSteps.{sent_early, sent_late}
use Rattle.link_sender.proofs.Settled.{FramesAreSettled-holds, agrees_earlier, carries_frame-still}

-- ---- numbers of samples

pub record AreDue (p : Plan) (t c n more : ℕ) (carrier : Carrier) : Type 0 where
  pub start : block_start carrier t ≤ n
  pub most : n + more ≤ block_start carrier t + carrier.s
  pub next : n + more ≡ samples_before p c (t + 1)
  pub small : n + more ≤ 32 * (t + 1)

pub are_due : (p : Plan) (t c n more : ℕ) (carrier : Carrier) → IsGoodCarrier p c carrier → n ≡ samples_before p c t → more ≡ samples_due p c t → AreDue p t c n more carrier
are_due p t c n more carrier is once due =
    let s = carrier.s in
    let k = carrier.k in
    let some = is.some_frames in
    let now = samples_before-carrier p c carrier t is in
    let later = samples_before-carrier p c carrier (t + 1) is in
    let whole = div-add-mod' (t * s) k in
    let grows = le-div (t * s / k) ((t + 1) * s) k some (omega (arith, whole)) in
    let split = div-add-mod' t k in
    let low = mod_below t k some in
    let blocks = mul-le (t / k * k) s t s (omega (arith, split)) (omega arith) in
    let start = le-div (t / k * s) (t * s) k some (omega (arith, blocks)) in
    let end = mul-le (t + 1) s ((t / k + 1) * k) s (omega (arith, split, low)) (omega arith) in
    let most = div_below ((t + 1) * s) k ((t / k + 1) * s + 1) some (omega (arith, end, some)) in
    let rate = mul-le s (t + 1) (32 * k) (t + 1) is.rate.slow (omega arith) in
    let small = div_below ((t + 1) * s) k (32 * (t + 1) + 1) some (omega (arith, rate, some)) in
    record {
      start = omega (arith, once, now, start);
      most = omega (arith, once, due, now, later, grows, most);
      next = omega (arith, once, due, now, later, grows);
      small = omega (arith, once, due, now, later, grows, small);
    }

abbrev pub with_hand : SenderView → ℕ → ℕ → SamplesView → SenderView
with_hand s c n h = record {
  plan = s.plan;
  frames = s.frames;
  announcement = s.announcement;
  tick = s.tick;
  handed = set s.handed c n;
  carriers = set s.carriers c h;
  slow = s.slow;
  fast = s.fast;
  frame = s.frame;
  octets = s.octets;
  rd = s.rd;
  rings = s.rings;
}

abbrev pub with_taken : SamplesView → List RawIq → SamplesView
with_taken h more = record { mapping = h.mapping; taken = h.taken ++ more; sent = h.sent; phase = h.phase }

module _ (s : SenderView) (is : IsSender s) (c n : ℕ) (carrier : Carrier) (more : List RawIq) (h : SamplesView) (read : slice_get s.plan.carriers c ≡ Some carrier)
    (hand : get_or s.carriers c h ≡ h) (count : slice_index s.handed c ≡ n) (due : AreDue s.plan s.tick c n (length more) carrier) where
  abbrev p : Plan
  p = s.plan

  abbrev t : ℕ
  t = s.tick

  inside : c < length p.carriers
  inside = slice_get_within p.carriers c carrier read

  keep : KeepsSamples t n carrier h
  keep = subst (λ (x : SamplesView). KeepsSamples t n carrier x) hand (subst (λ m. KeepsSamples t m carrier (get_or s.carriers c h)) count (is.carriers c carrier read h))

  abbrev h' : SamplesView
  h' = with_taken h more

  abbrev n' : ℕ
  n' = n + length more

  keeps : KeepsSamples t n' carrier h'
  keeps =
      let long = length-append h.taken more in
      record {
        mapping = keep.mapping;
        phase = keep.phase;
        taken = omega (arith, long, keep.taken, due.start);
        few = omega (arith, long, keep.taken, due.most, due.start);
        sent = keep.sent;
      }

  pub fits_in_hand : length h.taken + length more ≤ h.mapping.s
  fits_in_hand =
      let size = ap (λ (w : Mapping). w.s) keep.mapping in
      omega (arith, keep.taken, due.most, due.start, size)

  -- what stands at a place of the lists
  new_hand : (d : SamplesView) → get_or (set s.carriers c h') c d ≡ h'
  new_hand d = get_or-set_same s.carriers c h' d (omega (arith, inside, is.as_many_carriers))

  new_count : slice_index (set s.handed c n') c ≡ n'
  new_count = get_or-set_same s.handed c n' 0 (omega (arith, inside, is.as_many_numbers))

  -- the carrier that was read at the same place
  same_carrier : (i : ℕ) (other : Carrier) → i ≡ c → slice_get p.carriers i ≡ Some other → carrier ≡ other
  same_carrier i other here there =
      let one : Some carrier ≡ Some other = sym read ∙ ap (slice_get p.carriers) (sym here) ∙ there in
      cc

  pub is_with_hand : IsSender (with_hand s c n' h')
  is_with_hand = record {
    good = is.good;
    few = is.few;
    present = is.present;
    announced = is.announced;
    as_many_numbers = length-set s.handed c n' ∙ is.as_many_numbers;
    as_many_carriers = length-set s.carriers c h' ∙ is.as_many_carriers;
    carriers = λ i other there d. elim (cases_eq i c) [
      | inl here ↦
          let value : get_or (set s.carriers c h') i d ≡ h' = ap (λ k. get_or (set s.carriers c h') k d) here ∙ new_hand d in
          let number : slice_index (set s.handed c n') i ≡ n' = ap (slice_index (set s.handed c n')) here ∙ new_count in
          subst (KeepsSamples t (slice_index (set s.handed c n') i) other) (sym value)
          (subst (λ m. KeepsSamples t m other h') (sym number) (subst (λ (x : Carrier). KeepsSamples t n' x h') (same_carrier i other here there) keeps))
      | inr apart ↦
          subst (KeepsSamples t (slice_index (set s.handed c n') i) other) (sym (get_or-set_other s.carriers c i h' d apart))
          (subst (λ m. KeepsSamples t m other (get_or s.carriers i d)) (sym (get_or-set_other s.handed c i n' 0 apart)) (is.carriers i other there d))
    ];
    octets = is.octets;
    free = is.free;
    rings = is.rings;
  }

  module _ (σ : Stream) (stands : StandsFor s σ) where
    abbrev τ : Stream
    τ = with_samples σ c more

    there : c < length σ.samples
    there = omega (arith, inside, stands.as_many)

    long : length (samples_of σ c) ≡ n
    long = stands.handed c inside ∙ count

    own : samples_of τ c ≡ samples_of σ c ++ more
    own = get_or-set_same σ.samples c (samples_of σ c ++ more) [] there

    other_samples : (i : ℕ) → i ≢ c → samples_of τ i ≡ samples_of σ i
    other_samples i apart = get_or-set_other σ.samples c i (samples_of σ c ++ more) [] apart

    other_at : (i j : ℕ) → i ≢ c → sample_at τ i j ≡ sample_at σ i j
    other_at i j apart = ap (λ xs. get_or xs j zero_sample) (other_samples i apart)

    early_at : (j : ℕ) → j < n → sample_at τ c j ≡ sample_at σ c j
    early_at j less = ap (λ xs. get_or xs j zero_sample) own ∙ get_or_append_left (samples_of σ c) more zero_sample j (omega (arith, long))

    late_at : (j : ℕ) → n ≤ j → sample_at τ c j ≡ get_or more (j - n) zero_sample
    late_at j past =
        ap (λ xs. get_or xs j zero_sample) own ∙ get_or-append_right (samples_of σ c) more j zero_sample (omega (arith, long)) ∙ ap (λ m. get_or more (j - m) zero_sample) long

    agrees : AgreesBefore p t σ τ
    agrees = record {
      announcement = refl;
      slow = refl;
      fast = refl;
      samples = λ i other j read_i less. elim (cases_eq i c) [
        | inl here ↦
            let same = same_carrier i other here read_i in
            let early : j < block_start carrier t = subst (λ (x : Carrier). j < block_start x t) (sym same) less in
            ap (λ k. sample_at τ k j) here ∙ early_at j (omega (arith, due.start, early)) ∙ ap (λ k. sample_at σ k j) (sym here)
        | inr apart ↦ other_at i j apart
      ];
    }

    stand : StandsForSamples σ t c carrier h
    stand = subst (λ (x : SamplesView). StandsForSamples σ t c carrier x) hand (stands.samples c carrier read h)

    sent_same : (i r : ℕ) (x : Carrier) → ((j : ℕ) → sample_at σ i j ≡ sample_at τ i j) → sent_sample σ i x t r ≡ sent_sample τ i x t r
    sent_same i r x same = elim (cases_lt t x.k) [
      | inl early ↦ sent_early σ i x t r early ∙ sym (sent_early τ i x t r early)
      | inr late ↦ sent_late σ i x t r late ∙ same ((t / x.k - 1) * x.s + r) ∙ sym (sent_late τ i x t r late)
    ]

    -- what is sent was handed in before
    still : (i r : ℕ) (x : Carrier) → ((j : ℕ) → j < t / x.k * x.s → sample_at τ i j ≡ sample_at σ i j) → 1 ≤ x.k → r < x.s → sent_sample σ i x t r ≡ sent_sample τ i x t r
    still i r x same some low = elim (cases_lt t x.k) [
      | inl early ↦ sent_early σ i x t r early ∙ sym (sent_early τ i x t r early)
      | inr late ↦
          let one = le-div 1 t x.k some (omega arith) in
          let last : t / x.k - 1 + 1 ≡ t / x.k = omega arith in
          let product : (t / x.k - 1 + 1) * x.s ≡ t / x.k * x.s = ap (λ q. q * x.s) last in
          sent_late σ i x t r late ∙ sym (same ((t / x.k - 1) * x.s + r) (omega (arith, product))) ∙ sym (sent_late τ i x t r late)
    ]

    stands_other : (i : ℕ) (x : Carrier) → i ≢ c → (g : SamplesView) → StandsForSamples σ t i x g → StandsForSamples τ t i x g
    stands_other i x apart g before = record {
      taken = λ r less d. before.taken r less d ∙ sym (other_at i (block_start x t + r) apart);
      sent = λ r low d. before.sent r low d ∙ sent_same i r x (λ j. sym (other_at i j apart));
    }

    stands_own : StandsForSamples τ t c carrier h'
    stands_own = record {
      taken = λ r less d. elim (cases_lt r (length h.taken)) [
        | inl before ↦
            get_or_append_left h.taken more d r before ∙ stand.taken r before d ∙ sym (early_at (block_start carrier t + r) (omega (arith, before, keep.taken)))
        | inr past ↦
            let size = length-append h.taken more in
            let start = due.start in
            let taken = keep.taken in
            let place : r - length h.taken ≡ block_start carrier t + r - n = omega (arith, start, taken) in
            get_or-append_right h.taken more r d past ∙ get_or_default more (r - length h.taken) d zero_sample (omega (arith, size)) ∙ ap (λ k. get_or more k zero_sample) place
            ∙ sym (late_at (block_start carrier t + r) (omega (arith, start, taken)))
      ];
      sent = λ r low d. stand.sent r low d ∙ still c r carrier (λ j less. early_at j (omega (arith, less, due.start))) (good_carrier p c carrier is.good read).some_frames low;
    }

    pub stands_with_hand : StandsFor (with_hand s c n' h') τ
    stands_with_hand = record {
      announcement = stands.announcement;
      as_many = length-set σ.samples c (samples_of σ c ++ more) ∙ stands.as_many;
      handed = λ i less. elim (cases_eq i c) [
        | inl here ↦
            ap (λ k. length (samples_of τ k)) here ∙ ap length own ∙ length-append (samples_of σ c) more ∙ ap (λ m. m + length more) long ∙ sym new_count ∙ ap (slice_index (set s.handed c n')) (sym here)
        | inr apart ↦ ap length (other_samples i apart) ∙ stands.handed i less ∙ sym (get_or-set_other s.handed c i n' 0 apart)
      ];
      samples = λ i other read_i d. elim (cases_eq i c) [
        | inl here ↦
            let value : get_or (set s.carriers c h') i d ≡ h' = ap (λ k. get_or (set s.carriers c h') k d) here ∙ new_hand d in
            subst (StandsForSamples τ t i other) (sym value)
            (subst (λ k. StandsForSamples τ t k other h') (sym here) (subst (λ (x : Carrier). StandsForSamples τ t c x h') (same_carrier i other here read_i) stands_own))
        | inr apart ↦
            subst (StandsForSamples τ t i other) (sym (get_or-set_other s.carriers c i h' d apart)) (stands_other i other apart (get_or s.carriers i d) (stands.samples i other read_i d))
      ];
      slow = stands.slow;
      fast = stands.fast;
      frames = record {
        made = stands.frames.made;
        count = stands.frames.count;
        are_frames = λ m less d. FramesAreSettled-holds p σ τ m _ is.good (agrees_earlier p t m σ τ is.good (omega arith) agrees) (stands.frames.are_frames m less d);
        disparity = stands.frames.disparity;
        none = stands.frames.none;
        last = λ m next. FramesAreSettled-holds p σ τ m s.frame is.good (agrees_earlier p t m σ τ is.good (omega arith) agrees) (stands.frames.last m next);
      };
      packets = λ i f read_i d.
          let before = stands.packets i f read_i d in
          record { order = before.order; parts = λ j k low less fresh. carries_frame-still p σ τ f (j * f.frames + k) t _ is.good less agrees (before.parts j k low less fresh) };
    }
