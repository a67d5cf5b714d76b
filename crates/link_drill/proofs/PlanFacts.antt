-- The numbers of the plan of a drill.
use Rattle.std.proofs.Common.{◌≡◌, ℕ, ◌+◌, ◌*◌, ◌/◌, ◌<◌, ◌≤◌, List, [], ◌∷◌, length, map, get_or, slice_get, slice_index, Some, refl, sym, ap, ◌∙◌, arith}
use Rattle.std.specs.Int.{div_ceil}
use Rattle.std.specs.List.{range_with_len}
use Rattle.std.proofs.lemmas.List.FromFn.{get_or-map-range_with_len, length-map-range_with_len}
use Rattle.std.proofs.lemmas.Option.{slice_get-get_or}
use Rattle.carrier_plan.specs.declared.plan.Carrier.{Carrier}
use Rattle.carrier_plan.specs.declared.plan.Flow.{Flow}
use Rattle.carrier_plan.specs.declared.plan.Mode.TheVariants.{Bytes}
use Rattle.carrier_plan.specs.declared.plan.Plan.{Plan}
use Rattle.plan_checker.specs.Packets.{run_packets}
use Rattle.plan_checker.specs.Rules.{IsGood}
use Rattle.plan_checker.specs.Run.{block_lengths, delay_of, longest_block, samples_before, samples_due, ticks_of_run}
use Rattle.plan_checker.specs.WordSize.{word_size}
use Rattle.plan_checker.proofs.Longest.{greatest_reached_some}
use Rattle.plan_checker.proofs.Places.{number_at}
use Rattle.link_drill.specs.DrillPlan.{drill_carrier, drill_flow, drill_plan}
use Rattle.link_drill.proofs.GoodPlan.{drill_plan-good, words_between}

-- what is known of the plan, in words of Y octets
pub record IsDrillPlan (p : Plan) (Y : ℕ) : Type 0 where
  pub good : IsGood p
  pub some : 1 ≤ Y
  pub few : Y ≤ 16
  pub words : word_size p.option ≡ Y
  pub mode : p.mode ≡ Bytes
  pub playout : p.playout ≡ 33
  pub carriers : p.carriers ≡ map drill_carrier (range_with_len 0 Y)
  pub flows : p.flows ≡ drill_flow Y ∷ []

pub drill_plan-is : (option : ℕ) → 1 ≤ option → option ≤ 7 → IsDrillPlan (drill_plan option) (word_size option)
unfolding drill_plan
drill_plan-is option low high =
    let words = words_between option low high in
    record {
      good = drill_plan-good option low high;
      some = words.0;
      few = words.1;
      words = refl;
      mode = refl;
      playout = refl;
      carriers = refl;
      flows = refl;
    }

pub drill_plan-option : (option : ℕ) → (drill_plan option).option ≡ option
unfolding drill_plan
drill_plan-option option = refl

module _ (p : Plan) (Y : ℕ) (is : IsDrillPlan p Y) where
  pub as_many_carriers : length p.carriers ≡ Y
  as_many_carriers = ap (λ (cs : List Carrier). length cs) is.carriers ∙ length-map-range_with_len drill_carrier 0 Y

  pub carrier_read : (c : ℕ) → c < Y → slice_get p.carriers c ≡ Some (drill_carrier c)
  carrier_read c low =
      ap (λ (cs : List Carrier). slice_get cs c) is.carriers
      ∙ slice_get-get_or (map drill_carrier (range_with_len 0 Y)) c (drill_carrier 0) (omega (arith, length-map-range_with_len drill_carrier 0 Y))
      ∙ ap Some (get_or-map-range_with_len drill_carrier 0 Y c c (drill_carrier 0) low (omega arith))

  pub flow_read : slice_get p.flows 0 ≡ Some (drill_flow Y)
  flow_read = ap (λ (fs : List Flow). slice_get fs 0) is.flows

  block_frames : (c : ℕ) → c < Y → slice_index (block_lengths p) c ≡ 1
  block_frames c low = number_at (λ (x : Carrier). x.k) p.carriers c (drill_carrier c) (carrier_read c low)

  pub samples_before-four : (c n : ℕ) → c < Y → samples_before p c n ≡ 4 * n
  samples_before-four c n low =
      ap (λ s. n * s / slice_index (block_lengths p) c) (number_at (λ (x : Carrier). x.s) p.carriers c (drill_carrier c) (carrier_read c low))
      ∙ ap (λ k. n * 4 / k) (block_frames c low) ∙ omega arith

  pub samples_due-four : (c n : ℕ) → c < Y → samples_due p c n ≡ 4
  samples_due-four c n low =
      let before = samples_before-four c n low in
      let after = samples_before-four c (n + 1) low in
      omega arith

  pub delay-is : (c : ℕ) → c < Y → delay_of p c ≡ 34
  delay-is c low = ap (λ k. p.playout + k) (block_frames c low) ∙ omega (arith, is.playout)

  pub longest-is : longest_block p ≡ 1
  longest-is =
      let reached = greatest_reached_some p.carriers (omega (arith, as_many_carriers, is.some)) in
      let k = reached.0 in
      let x = reached.1 in
      let low : k < Y = omega (arith, reached.2, as_many_carriers) in
      sym reached.4
      ∙ ap (λ (c : Carrier). c.k) (sym reached.3 ∙ ap (λ (cs : List Carrier). get_or cs k x) is.carriers ∙ get_or-map-range_with_len drill_carrier 0 Y k k x low (omega arith))

  pub ticks-are : (h : ℕ) → ticks_of_run p h ≡ h + 34
  ticks-are h = omega (arith, longest-is, is.playout)

  pub packets-are : run_packets p (drill_flow Y) 256 ≡ 65
  packets-are = ap (λ n. div_ceil (256 + n) 4) longest-is

-- the plan is made of its carriers and its flow
pub plan_by_parts : (option Y : ℕ) (carriers : List Carrier) (flows : List Flow) (flow : Flow) → Y ≡ word_size option → carriers ≡ map drill_carrier (range_with_len 0 Y)
    → flow ≡ drill_flow Y → flows ≡ flow ∷ [] → (let p : Plan = record { option = option; mode = Bytes; playout = 33; carriers = carriers; flows = flows } in p) ≡ drill_plan option
unfolding drill_plan
plan_by_parts option Y carriers flows flow words are is one =
    let by : List Carrier → List Flow → Plan = λ cs fs. record { option = option; mode = Bytes; playout = 33; carriers = cs; flows = fs } in
    ap (λ cs. by cs flows) (are ∙ ap (λ n. map drill_carrier (range_with_len 0 n)) words)
    ∙ ap (by (map drill_carrier (range_with_len 0 (word_size option)))) (one ∙ ap (λ f. f ∷ []) (is ∙ ap drill_flow words))

pub one_flow : (p : Plan) (Y : ℕ) → IsDrillPlan p Y → 0 < length p.flows
one_flow p Y is = let one = ap (λ (fs : List Flow). length fs) is.flows in omega arith
