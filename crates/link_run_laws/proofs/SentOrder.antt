-- The records that are sent stand in the order of their ticks, and are not too many for a capture.
use Rattle.std.proofs.Common.{◌≡◌, ℕ, zero, suc, ◌+◌, ◌*◌, ◌≤◌, List, [], ◌∷◌, ◌++◌, length, get_or, All, sum_by, refl, ap, ◌∙◌, arith}
use Rattle.std.specs.List.{flat_map, range_with_len}
use Rattle.std.proofs.lemmas.List.{length-map}
use Rattle.std.proofs.lemmas.List.Concat.{length-flat_map}
use Rattle.std.proofs.lemmas.List.Elements.{All-head, All-map, All-tail}
use Rattle.std.proofs.lemmas.List.FromFn.{length-range_with_len}
use Rattle.std.proofs.lemmas.List.Sums.{sum_by-cons}
use Rattle.std.proofs.lemmas.Option.{slice_get-get_or}
use Rattle.carrier_plan.specs.declared.plan.Flow.{Flow}
use Rattle.carrier_plan.specs.declared.plan.Plan.{Plan}
use Rattle.link_base.specs.Record.{Record}
use Rattle.link_receiver.proofs.Windows.{longest_block-short}
use Rattle.link_run_send.specs.RunText.{PacketsAreWrittenOnce}
use Rattle.link_run_send.specs.SentText.{opening_at}
use Rattle.link_sender.specs.Stream.{Stream}
use Rattle.plan_checker.specs.Packets.{run_packets}
use Rattle.plan_checker.specs.Rules.{IsGood}
use Rattle.plan_checker.specs.Rules.Rule.{Counts, PayloadSize}
use Rattle.plan_checker.specs.Run.{longest_block, ticks_of_run}
use Rattle.sample_bits.proofs.RateLemmas.{div_ceil-le}
use Rattle.link_run_laws.specs.SentRecords.{flow_records, sent_records, tick_records}
use Rattle.link_run_laws.proofs.Pieces.{All-pieces}
use Rattle.link_run_laws.proofs.ReadCaptures.{IsOrdered}
use Rattle.link_run_laws.proofs.SentPackets.{record_of}

-- ---- by tick

ordered_weaker : (a b : ℕ) (rs : List Record) → a ≤ b → IsOrdered b rs → IsOrdered a rs
ordered_weaker a b [] low ordered = tt
ordered_weaker a b (r ∷ rs) low ordered = (omega (arith, ordered.0), ordered.1)

ordered_after : (a t : ℕ) (xs ys : List Record) → a ≤ t → All (λ (r : Record). r.tick ≡ t) xs → IsOrdered t ys → IsOrdered a (xs ++ ys)
ordered_after a t [] ys low all ordered = ordered_weaker a t ys low ordered
ordered_after a t (x ∷ xs) ys low all ordered =
    let here = All-head (λ (r : Record). r.tick ≡ t) x xs all in
    (omega (arith, here), ordered_after x.tick t xs ys (omega (arith, here)) (All-tail (λ (r : Record). r.tick ≡ t) x xs all) ordered)

ordered_ticks : (f : ℕ → List Record) → ((t : ℕ) → All (λ (r : Record). r.tick ≡ t) (f t)) → (a n : ℕ) → IsOrdered a (flat_map f (range_with_len a n))
ordered_ticks f at a zero = tt
ordered_ticks f at a (suc n) =
    let rest = flat_map f (range_with_len (a + 1) n) in
    ordered_after a a (f a) rest (omega arith) (at a) (ordered_weaker a (a + 1) rest (omega arith) (ordered_ticks f at (a + 1) n))

-- ---- sums over sums

sum_split : {X : Type 0} (a b c : X → ℕ) → ((x : X) → c x ≡ a x + b x) → (xs : List X) → sum_by c xs ≡ sum_by a xs + sum_by b xs
sum_split a b c split [] = refl
sum_split a b c split (x ∷ xs) =
    sum_by-cons c x xs ∙ omega (arith, split x, sum_split a b c split xs, sum_by-cons a x xs, sum_by-cons b x xs)

sum_none : {X : Type 0} (c : X → ℕ) → ((x : X) → c x ≡ 0) → (xs : List X) → sum_by c xs ≡ 0
sum_none c none [] = refl
sum_none c none (x ∷ xs) = sum_by-cons c x xs ∙ omega (arith, none x, sum_none c none xs)

sum_below : {X Y : Type 0} (g : X → Y → ℕ) (most : ℕ) (xs : List X) (ys : List Y) → All (λ y. sum_by (λ x. g x y) xs ≤ most) ys → sum_by (λ x. sum_by (g x) ys) xs ≤ length ys * most
sum_below g most xs [] all = let none = sum_none (λ x. sum_by (g x) []) (λ x. refl) xs in omega (arith, none)
sum_below g most xs (y ∷ ys) all =
    let first = All-head (λ y. sum_by (λ x. g x y) xs ≤ most) y ys all in
    let rest = sum_below g most xs ys (All-tail (λ y. sum_by (λ x. g x y) xs ≤ most) y ys all) in
    let both = sum_split (λ x. g x y) (λ x. sum_by (g x) ys) (λ x. sum_by (g x) (y ∷ ys)) (λ x. sum_by-cons (g x) y ys) xs in
    omega (arith, first, rest, both)

-- ---- the records

sum_same : {X : Type 0} (a b : X → ℕ) → ((x : X) → a x ≡ b x) → (xs : List X) → sum_by a xs ≡ sum_by b xs
sum_same a b same [] = refl
sum_same a b same (x ∷ xs) = sum_by-cons a x xs ∙ omega (arith, same x, sum_same a b same xs, sum_by-cons b x xs)

module _ (p : Plan) (h : ℕ) (σ : Stream) where
  at_tick : (t : ℕ) → All (λ (r : Record). r.tick ≡ t) (tick_records p h σ t)
  unfolding tick_records flow_records
  at_tick t =
      All-pieces (λ (r : Record). r.tick ≡ t) (λ f. Unit {0}) (flow_records p h σ t)
      (λ f here. All-map (λ (r : Record). r.tick ≡ t) (record_of p h σ t f) (opening_at p h f t) (λ k d lt. refl)) p.flows (λ k d lt. tt)

  pub sent_ordered : IsOrdered 0 (sent_records p h σ)
  unfolding sent_records
  sent_ordered = ordered_ticks (tick_records p h σ) at_tick 0 (ticks_of_run p h)

  abbrev count_at : ℕ → Flow → ℕ
  count_at t f = length (opening_at p h f t)

  count_of_flow : (t : ℕ) (f : Flow) → length (flow_records p h σ t f) ≡ count_at t f
  unfolding flow_records
  count_of_flow t f = length-map (opening_at p h f t) (record_of p h σ t f)

  count_of_tick : (t : ℕ) → length (tick_records p h σ t) ≡ sum_by (count_at t) p.flows
  unfolding tick_records
  count_of_tick t = length-flat_map (flow_records p h σ t) p.flows ∙ sum_same (λ f. length (flow_records p h σ t f)) (count_at t) (count_of_flow t) p.flows

  few_of_flow : PacketsAreWrittenOnce → IsGood p → All (λ f. sum_by (λ t. count_at t f) (range_with_len 0 (ticks_of_run p h)) ≤ h + longest_block p) p.flows
  few_of_flow written good k d lt =
      let f = get_or p.flows k d in
      let run = h + longest_block p in
      let ticks = range_with_len 0 (ticks_of_run p h) in
      let some = (good PayloadSize k lt d).some_frames in
      let all = length-flat_map (opening_at p h f) ticks in
      let once = ap length (written p h k f good (slice_get-get_or p.flows k d lt)) in
      let times : run ≤ run * f.frames = grind arith in
      omega (arith, all, once, length-range_with_len 0 (run_packets p f h), div_ceil-le run f.frames run some times)

  pub sent_few : PacketsAreWrittenOnce → IsGood p → length (sent_records p h σ) ≤ 8 * (h + 96)
  unfolding sent_records
  sent_few written good =
      let ticks = range_with_len 0 (ticks_of_run p h) in
      let counts = good Counts 0 (omega arith) in
      let all = length-flat_map (tick_records p h σ) ticks ∙ sum_same (λ t. length (tick_records p h σ t)) (λ t. sum_by (count_at t) p.flows) count_of_tick ticks in
      let most = sum_below count_at (h + longest_block p) ticks p.flows (few_of_flow written good) in
      let short = longest_block-short p good in
      few_by (length p.flows) (h + longest_block p) h (length (flat_map (tick_records p h σ) ticks)) counts.few_flows (omega (arith, short)) (omega (arith, all, most))
    where
      few_by : (flows run h count : ℕ) → flows ≤ 8 → run ≤ h + 96 → count ≤ flows * run → count ≤ 8 * (h + 96)
      few_by flows run h count few short low =
          let first : flows * run ≤ 8 * run = grind arith in
          omega (arith, first, low, short)
