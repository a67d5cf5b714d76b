-- What a sender was handed of the samples of a drill, and the packets that it makes of them.
use Rattle.std.proofs.Common.{◌≡◌, ◌≢◌, ℕ, zero, suc, ◌+◌, ◌-◌, ◌*◌, ◌/◌, ◌%◌, ◌<◌, ◌≤◌, List, [], ◌∷◌, ◌++◌, All, length, map, take, drop, min, get_or, slice_index, Some, get_or-set_other, get_or-set_same, length-set, refl, sym, ap, ◌∙◌, subst, arith, inl, inr}
use Rattle.std.specs.List.{range_with_len}
use Rattle.std.proofs.Math.Seq.{drop-cons}
use Rattle.std.proofs.lemmas.Bool.{cases_eq, cases_lt}
use Rattle.std.proofs.lemmas.List.{get_or_past, length-map, map-append}
use Rattle.std.proofs.lemmas.List.FromFn.{get_or-map-range_with_len, length-map-range_with_len, map-range_with_len_more}
use Rattle.std.proofs.lemmas.Nat.{mul-le}
use Rattle.std.proofs.lemmas.Option.{slice_get_within}
use Rattle.carrier_plan.specs.declared.plan.Carrier.{Carrier}
use Rattle.carrier_plan.specs.declared.plan.Flow.{Flow}
use Rattle.carrier_plan.specs.declared.plan.Plan.{Plan}
use Rattle.link_receiver.proofs.Ranges.{map-ranges}
use Rattle.link_sender.specs.HandedIn.{nothing_yet, with_samples}
use Rattle.link_sender.specs.Laws.{AgreesBefore, PacketsAreDetermined, PacketsAreSettled}
use Rattle.link_sender.specs.Packets.{IsPacket}
use Rattle.link_sender.specs.Senders.{NamesFirst, OpensBefore, SenderView, StandsFor, zero_sample}
use Rattle.link_sender.specs.Stream.{Stream, sample_at, samples_of}
use Rattle.link_sender.specs.Whole.{packet_of}
use Rattle.link_sender.specs.declared.range.Range.{Range}
use Rattle.plan_checker.specs.WordSize.{IsLineOption, word_size}
use Rattle.sample_bits.specs.Samples.{IsWithin}
use Rattle.sample_bits.specs.declared.iq.RawIq.{RawIq}
use Rattle.link_drill.specs.DrillPlan.{drill_carrier, drill_flow, drill_plan}
use Rattle.link_drill.specs.DrillStream.{carrier_samples, drawn_place, drill_announcement, drill_stream}
use Rattle.link_drill.specs.Sent.{HasSent, IsRun, packets_of}
use Rattle.link_drill.proofs.PlanFacts.{IsDrillPlan, as_many_carriers, carrier_read, drill_plan-is, packets-are}
use Rattle.link_drill.proofs.Ranges.{range_split}

-- ---- the samples of a carrier

abbrev drawn_at : (Y : ℕ) → List RawIq → (c j : ℕ) → RawIq
drawn_at Y drawn c j = get_or drawn (drawn_place Y c j) zero_sample

-- neighbours in a list
pub part_is : {X : Type 0} (xs : List X) (d : X) (a n : ℕ) → a + n ≤ length xs → take n (drop a xs) ≡ map (λ j. get_or xs j d) (range_with_len a n)
part_is xs d a zero within = refl
part_is xs d a (suc n) within =
    let rest = part_is xs d (a + 1) n (omega arith) in
    let next : suc a ≡ a + 1 = omega arith in
    ap (take (suc n)) (drop-cons xs a d (omega arith) ∙ ap (λ k. get_or xs a d ∷ drop k xs) next) ∙ ap (λ ys. get_or xs a d ∷ ys) rest

map-range_split : {X : Type 0} (f : ℕ → X) (a n : ℕ) → map f (range_with_len 0 (a + n)) ≡ map f (range_with_len 0 a) ++ map f (range_with_len a n)
map-range_split f a n =
    let here : 0 + a ≡ a = omega arith in
    ap (map f) (range_split 0 a n ∙ ap (λ b. range_with_len 0 a ++ range_with_len b n) here) ∙ map-append f (range_with_len 0 a) (range_with_len a n)

-- the place of the samples of tick n
place_in_tick : (Y c n r : ℕ) → r < 4 → drawn_place Y c (4 * n + r) ≡ 4 * (n * Y + c) + r
place_in_tick Y c n r low =
    let q : (4 * n + r) / 4 ≡ n = omega arith in
    let m : (4 * n + r) % 4 ≡ r = omega arith in
    ap (λ x. 4 * (x * Y + c) + (4 * n + r) % 4) q ∙ ap (λ x. 4 * (n * Y + c) + x) m

-- the samples of one tick more
carrier_samples-more : (Y : ℕ) (drawn : List RawIq) (c n : ℕ) → 4 * (n * Y + c) + 4 ≤ length drawn
    → carrier_samples Y drawn c (4 * n) ++ take 4 (drop (4 * (n * Y + c)) drawn) ≡ carrier_samples Y drawn c (4 * (n + 1))
carrier_samples-more Y drawn c n within =
    let f : ℕ → RawIq = drawn_at Y drawn c in
    let four = part_is drawn zero_sample (4 * (n * Y + c)) 4 within in
    let same = map-ranges (λ j. get_or drawn j zero_sample) f (4 * (n * Y + c)) (4 * n) 4
    (λ r low. ap (λ k. get_or drawn k zero_sample) (sym (place_in_tick Y c n r low))) in
    let many : 4 * n + 4 ≡ 4 * (n + 1) = omega arith in
    ap (λ ys. carrier_samples Y drawn c (4 * n) ++ ys) (four ∙ same) ∙ sym (map-range_split f (4 * n) 4) ∙ ap (λ m. map f (range_with_len 0 m)) many

carrier_at : (Y : ℕ) (drawn : List RawIq) (c count j : ℕ) → j < count → get_or (carrier_samples Y drawn c count) j zero_sample ≡ drawn_at Y drawn c j
carrier_at Y drawn c count j low = get_or-map-range_with_len (drawn_at Y drawn c) 0 count j j zero_sample low (omega arith)

carrier_past : (Y : ℕ) (drawn : List RawIq) (c count j : ℕ) → count ≤ j → get_or (carrier_samples Y drawn c count) j zero_sample ≡ zero_sample
carrier_past Y drawn c count j high = get_or_past (carrier_samples Y drawn c count) j zero_sample (omega (arith, length-map-range_with_len (drawn_at Y drawn c) 0 count))

-- ---- the stream of a drill

pub drill_samples : (Y h : ℕ) (drawn : List RawIq) (c : ℕ) → c < Y → samples_of (drill_stream Y h drawn) c ≡ carrier_samples Y drawn c (4 * h)
unfolding drill_stream
drill_samples Y h drawn c low = get_or-map-range_with_len (λ k. carrier_samples Y drawn k (4 * h)) 0 Y c c [] low (omega arith)

pub drill_sample_at : (Y h : ℕ) (drawn : List RawIq) (c j : ℕ) → c < Y → j < 4 * h → sample_at (drill_stream Y h drawn) c j ≡ get_or drawn (drawn_place Y c j) zero_sample
drill_sample_at Y h drawn c j low less =
    ap (λ (xs : List RawIq). get_or xs j zero_sample) (drill_samples Y h drawn c low) ∙ carrier_at Y drawn c (4 * h) j less

drill_channels : (Y h : ℕ) (drawn : List RawIq)
    → ((drill_stream Y h drawn).announcement ≡ drill_announcement) × ((drill_stream Y h drawn).slow ≡ []) × ((drill_stream Y h drawn).fast ≡ [])
unfolding drill_stream
drill_channels Y h drawn = (refl, refl, refl)

-- ---- what was handed in

module _ (s s' : SenderView) (Y : ℕ) (drawn : List RawIq) where
  pub sent_next : (n : ℕ) → HasSent s Y drawn n Y → ((σ : Stream) → StandsFor s σ → StandsFor s' σ) → HasSent s' Y drawn (n + 1) 0
  sent_next n sent keeps = record {
    stream = sent.stream;
    stands = keeps sent.stream sent.stands;
    announcement = sent.announcement;
    slow = sent.slow;
    fast = sent.fast;
    as_many = sent.as_many;
    done = λ k low. absurd (omega arith);
    due = λ k low high. sent.done k high;
  }

  pub sent_still : (n c : ℕ) → HasSent s Y drawn n c → ((σ : Stream) → StandsFor s σ → StandsFor s' σ) → HasSent s' Y drawn n c
  sent_still n c sent keeps = record {
    stream = sent.stream;
    stands = keeps sent.stream sent.stands;
    announcement = sent.announcement;
    slow = sent.slow;
    fast = sent.fast;
    as_many = sent.as_many;
    done = sent.done;
    due = sent.due;
  }

  pub sent_more : (n c : ℕ) (four : List RawIq) → c < Y → HasSent s Y drawn n c → 4 * (n * Y + c) + 4 ≤ length drawn → four ≡ take 4 (drop (4 * (n * Y + c)) drawn)
      → ((σ : Stream) → StandsFor s σ → StandsFor s' (with_samples σ c four)) → HasSent s' Y drawn n (c + 1)
  sent_more n c four low sent within is takes =
      let σ = sent.stream in
      let τ = with_samples σ c four in
      let own : samples_of τ c ≡ samples_of σ c ++ four = get_or-set_same σ.samples c (samples_of σ c ++ four) [] (omega (arith, sent.as_many)) in
      let others : (k : ℕ) → k ≢ c → samples_of τ k ≡ samples_of σ k = λ k apart. get_or-set_other σ.samples c k (samples_of σ c ++ four) [] apart in
      record {
        stream = τ;
        stands = takes σ sent.stands;
        announcement = sent.announcement;
        slow = sent.slow;
        fast = sent.fast;
        as_many = length-set σ.samples c (samples_of σ c ++ four) ∙ sent.as_many;
        done = λ k less. elim (cases_eq k c) [
          | inl here ↦
              ap (samples_of τ) here ∙ own ∙ ap (λ (xs : List RawIq). xs ++ four) (sent.due c (omega arith) low) ∙ ap (λ ys. carrier_samples Y drawn c (4 * n) ++ ys) is ∙ carrier_samples-more Y drawn c n within
              ∙ ap (λ x. carrier_samples Y drawn x (4 * (n + 1))) (sym here)
          | inr apart ↦ others k apart ∙ sent.done k (omega (arith, less, apart))
        ];
        due = λ k more high. let apart : k ≢ c = λ e. absurd (omega arith) in others k apart ∙ sent.due k (omega arith) high;
      }

-- as many samples of carrier c were handed in as are due before tick n
pub sent_count : (s : SenderView) (Y : ℕ) (drawn : List RawIq) (n c : ℕ) → c < Y → length s.plan.carriers ≡ Y → HasSent s Y drawn n c → slice_index s.handed c ≡ 4 * n
sent_count s Y drawn n c low many sent =
    sym (sent.stands.handed c (omega (arith, low, many))) ∙ ap (λ (xs : List RawIq). length xs) (sent.due c (omega arith) low)
    ∙ length-map-range_with_len (drawn_at Y drawn c) 0 (4 * n)

abbrev no_sample : List RawIq
no_sample = []

no_samples : (cs : List Carrier) (k : ℕ) → get_or (map (λ (c : Carrier). no_sample) cs) k no_sample ≡ no_sample
no_samples [] k = refl
no_samples (c ∷ cs) zero = refl
no_samples (c ∷ cs) (suc k) = no_samples cs k

pub sent_none : (s : SenderView) (p : Plan) (Y : ℕ) (drawn : List RawIq) → length p.carriers ≡ Y → StandsFor s (nothing_yet p drill_announcement) → HasSent s Y drawn 0 0
sent_none s p Y drawn many stands = record {
  stream = nothing_yet p drill_announcement;
  stands = stands;
  announcement = refl;
  slow = refl;
  fast = refl;
  as_many = length-map p.carriers (λ (c : Carrier). no_sample) ∙ many;
  done = λ k low. absurd (omega arith);
  due = λ k low high. no_samples p.carriers k;
}

-- ---- a packet

module _ (p : Plan) (Y : ℕ) (is : IsDrillPlan p Y) (s : SenderView) (drawn : List RawIq) (sent : HasSent s Y drawn (min s.tick 256) 0) where
  abbrev σ : Stream
  σ = sent.stream

  abbrev τ : Stream
  τ = drill_stream Y 256 drawn

  same_sample : (c j : ℕ) → c < Y → j < 4 * s.tick → sample_at τ c j ≡ sample_at σ c j
  same_sample c j low less =
      let own = ap (λ (xs : List RawIq). get_or xs j zero_sample) (sent.due c (omega arith) low) in
      let whole = ap (λ (xs : List RawIq). get_or xs j zero_sample) (drill_samples Y 256 drawn c low) in
      elim (cases_lt j (4 * min s.tick 256)) [
        | inl within ↦ whole ∙ carrier_at Y drawn c (4 * 256) j (omega arith) ∙ sym (own ∙ carrier_at Y drawn c (4 * min s.tick 256) j within)
        | inr past ↦ whole ∙ carrier_past Y drawn c (4 * 256) j (omega arith) ∙ sym (own ∙ carrier_past Y drawn c (4 * min s.tick 256) j past)
      ]

  agrees : (n : ℕ) → n ≤ s.tick → AgreesBefore p n σ τ
  agrees n early =
      let channels = drill_channels Y 256 drawn in
      record {
        announcement = channels.0 ∙ sym sent.announcement;
        slow = channels.1 ∙ sym sent.slow;
        fast = channels.2 ∙ sym sent.fast;
        samples = λ c carrier j read less.
            let low : c < Y = omega (arith, slice_get_within p.carriers c carrier read, as_many_carriers p Y is) in
            let same : Some (drill_carrier c) ≡ Some carrier = sym (carrier_read p Y is c low) ∙ read in
            let is_carrier : drill_carrier c ≡ carrier = cc in
            let before : j < n / 1 * 4 = subst (λ (x : Carrier). j < n / x.k * x.s) (sym is_carrier) less in
            same_sample c j low (omega arith);
      }

  pub packet_is : PacketsAreSettled → PacketsAreDetermined → (i : ℕ) (octets : List ℕ) → OpensBefore p 256 (drill_flow Y) s.tick i
      → IsPacket p σ (drill_flow Y) i octets → octets ≡ packet_of p τ (drill_flow Y) i
  packet_is settled determined i octets opens packet =
      determined p τ (drill_flow Y) i octets is.good
      (settled p σ τ (drill_flow Y) i octets is.good (agrees ((i + 1) * 4) (omega (arith, opens.opens))) packet)

pub packets_of-none : (p : Plan) (σ : Stream) (f : Flow) → packets_of p σ f 0 ≡ []
unfolding packets_of
packets_of-none p σ f = refl

pub packets_of-more : (p : Plan) (σ : Stream) (f : Flow) (n : ℕ) → packets_of p σ f (n + 1) ≡ packets_of p σ f n ++ packet_of p σ f n ∷ []
unfolding packets_of
packets_of-more p σ f n = map-range_with_len_more (packet_of p σ f) 0 n n (omega arith)

pub length-packets_of : (p : Plan) (σ : Stream) (f : Flow) (n : ℕ) → length (packets_of p σ f n) ≡ n
unfolding packets_of
length-packets_of p σ f n = length-map-range_with_len (packet_of p σ f) 0 n

-- ---- the plan of a sender

pub run_plan : (s : SenderView) → IsRun s → IsDrillPlan s.plan (word_size s.plan.option)
run_plan s is = subst (λ (p : Plan). IsDrillPlan p (word_size s.plan.option)) (sym is.plan) (drill_plan-is s.plan.option is.known.0 is.known.1)

pub run_words : (s : SenderView) (Y : ℕ) → IsRun s → Y ≡ word_size s.plan.option → IsDrillPlan s.plan Y
run_words s Y is words = subst (IsDrillPlan s.plan) (sym words) (run_plan s is)

pub run_stays : (s s' : SenderView) → IsRun s → s'.plan ≡ s.plan → s'.frames ≡ s.frames → IsRun s'
run_stays s s' is same frames = record {
  plan = subst (λ (p : Plan). p ≡ drill_plan p.option) (sym same) is.plan;
  known = subst (λ (p : Plan). IsLineOption p.option) (sym same) is.known;
  frames = frames ∙ is.frames;
}

pub plan_known : (p : Plan) → p ≡ drill_plan p.option → IsLineOption p.option → IsDrillPlan p (word_size p.option)
plan_known p same known = subst (λ (q : Plan). IsDrillPlan q (word_size p.option)) (sym same) (drill_plan-is p.option known.0 known.1)

pub run_begun : (s : SenderView) (p : Plan) → s.plan ≡ p → p ≡ drill_plan p.option → IsLineOption p.option → s.frames ≡ 256 → IsRun s
run_begun s p seen same known frames = record {
  plan = subst (λ (q : Plan). q ≡ drill_plan q.option) (sym seen) same;
  known = subst (λ (q : Plan). IsLineOption q.option) (sym seen) known;
  frames = frames;
}

-- ---- a call

-- samples that have the width are refused by no carrier of it
pub no_range_fault : (m c first : ℕ) (samples : List RawIq) (range : Range) → NamesFirst m c first samples range → All (IsWithin m) samples → ⊥
no_range_fault m c first samples range names widths = names.outside.outside zero_sample (widths names.place zero_sample names.outside.inside)

pub four_within : (n Y c count : ℕ) → n < 256 → c < Y → count ≡ 4 * (256 * Y) → 4 * (n * Y + c) + 4 ≤ count
four_within n Y c count low less many = let before = mul-le n Y 255 Y (omega arith) (omega arith) in omega (arith, before, many, less)

-- the four samples, as they are cut out
pub four_are : (drawn : List RawIq) (start place : ℕ) → start ≡ place → take (start + 4 - start) (drop start drawn) ≡ take 4 (drop place drawn)
four_are drawn start place same =
    let four : start + 4 - start ≡ 4 = omega arith in
    ap (λ n. take n (drop start drawn)) four ∙ ap (λ k. take 4 (drop k drawn)) same

module _ (p : Plan) (Y : ℕ) (is : IsDrillPlan p Y) (s : SenderView) (drawn : List RawIq) (sent : HasSent s Y drawn (min s.tick 256) 0) (run : s.frames ≡ 256) where
  abbrev flow : Flow
  flow = drill_flow Y

  abbrev whole : Stream
  whole = drill_stream Y 256 drawn

  opens_in : (i : ℕ) → OpensBefore p s.frames flow s.tick i → OpensBefore p 256 flow s.tick i
  opens_in i opens = subst (λ h. OpensBefore p h flow s.tick i) run opens

  pub kept_more : PacketsAreSettled → PacketsAreDetermined → (i : ℕ) (octets : List ℕ) → OpensBefore p s.frames flow s.tick i → IsPacket p sent.stream flow i octets
      → (old new : List (List ℕ)) (packet : List ℕ) → old ≡ packets_of p whole flow ((s.tick - 11) / 4) → new ≡ old ++ packet ∷ [] → packet ≡ octets
      → new ≡ packets_of p whole flow ((s.tick - 10) / 4)
  kept_more settled determined i octets opens carried old new packet before made copied =
      let at : i * 4 + 14 ≡ s.tick = omega (arith, opens.opens) in
      let this : (s.tick - 11) / 4 ≡ i = omega arith in
      let next : i + 1 ≡ (s.tick - 10) / 4 = omega arith in
      made ∙ ap (λ (xs : List (List ℕ)). xs ++ packet ∷ []) (before ∙ ap (packets_of p whole flow) this)
      ∙ ap (λ (x : List ℕ). packets_of p whole flow i ++ x ∷ []) (copied ∙ packet_is p Y is s drawn sent settled determined i octets (opens_in i opens) carried)
      ∙ sym (packets_of-more p whole flow i) ∙ ap (packets_of p whole flow) next

  pub kept_none : s.tick ≤ 270 → ((i : ℕ) → ¬ OpensBefore p s.frames flow s.tick i) → (old : List (List ℕ)) → old ≡ packets_of p whole flow ((s.tick - 11) / 4)
      → old ≡ packets_of p whole flow ((s.tick - 10) / 4)
  kept_none early none old before = elim (cases_eq ((s.tick - 11) / 4) ((s.tick - 10) / 4)) [
    | inl same ↦ before ∙ ap (packets_of p whole flow) same
    | inr other ↦
        let i = (s.tick - 14) / 4 in
        let at : i * 4 + 14 ≡ s.tick = omega arith in
        absurd (none i (subst (λ h. OpensBefore p h flow s.tick i) (sym run) (record { in_run = omega (arith, packets-are p Y is); opens = omega arith })))
  ]
