-- What a session stands for after a tick.
use Rattle.std.proofs.Common.{◌≡◌, ℕ, ◌+◌, ◌-◌, ◌<◌, ◌≤◌, ◌^◌, Bool, true, false, List, length, map, take, get_or, find, Option, Some, None, slice_get, refl, sym, ap, ◌∙◌, subst, arith, inl, inr, cond, is_some}
use Rattle.std.specs.List.{HoldsAt}
use Rattle.std.specs.Option.{option_map}
use Rattle.std.proofs.lemmas.Bool.{cases_lt, false≢true}
use Rattle.std.proofs.lemmas.List.{get_or-map, length-map}
use Rattle.std.proofs.lemmas.Option.{get_or_from_slice_get, same_Some, slice_get_within}
use Rattle.carrier_plan.specs.declared.plan.Carrier.{Carrier}
use Rattle.carrier_plan.specs.declared.plan.Flow.{Flow}
use Rattle.carrier_plan.specs.declared.plan.Plan.{Plan}
use Rattle.link_base.specs.Record.{Record}
use Rattle.plan_checker.specs.Flows.{lists}
use Rattle.plan_checker.specs.Rules.{IsGood}
use Rattle.plan_checker.specs.Run.{ticks_of_run}
use Rattle.plan_checker.specs.WordSize.{word_size}
use Rattle.playout_buffer.specs.Conditions.{IsWindow}
use Rattle.playout_buffer.specs.Laws.{HeldIsReceived}
use Rattle.playout_buffer.specs.Received as buffer
use Rattle.playout_buffer.specs.declared.window.Window.{Window}
use Rattle.roe_mappers.specs.Parts.{part_control, spelled}
use Rattle.roe_mappers.specs.Symbols.{bad_symbol}
use Rattle.link_receiver.specs.Containers.{control_by, control_in, control_of_frame, octets_if_good}
use Rattle.link_receiver.specs.Flows.{AreInTime, advanced_flow}
use Rattle.link_receiver.specs.Playing.{HavePlayed, IsControlInHand, KeepCarriers, KeepFlows, Plays, octets_in_hand, part_of_kept}
use Rattle.link_receiver.specs.Received.{part_of_frame}
use Rattle.link_receiver.specs.Records.{arrivals_of, window_of}
use Rattle.link_receiver.specs.Sessions.{IsSession, KeepsCarrier, KeepsFlow, SessionView, StandsFor, StandsForCarrier, StandsForFlow}
use Rattle.link_receiver.specs.declared.carrier_in_hand.CarrierInHand.{CarrierInHand}
use Rattle.link_receiver.specs.declared.flow_in_hand.FlowInHand.{FlowInHand}
use Rattle.link_receiver.proofs.CarrierSteps.{keeps-played, keeps-unplayed, stands-played, stands-unplayed}
use Rattle.link_receiver.proofs.Items.{contained}
use Rattle.link_receiver.proofs.OctetsInHand.{item, item_at}
use Rattle.link_receiver.proofs.Windows.{good_flow, longest_block-short, window-meets}

-- ---- the tick

pub keep_flows : (s : SessionView) → IsSession s → KeepFlows s.plan s.frames s.tick s.flows
keep_flows s is = record { as_many = is.as_many_flows; each = is.flows }

pub keep_carriers : (s : SessionView) → IsSession s → KeepCarriers s.plan s.frames s.tick s.carriers
keep_carriers s is = record { as_many = is.as_many_carriers; each = is.carriers }

pub ticks-small : (s : SessionView) → IsSession s → s.tick < 2 ^ 41
ticks-small s is =
    let counts = is.good Rattle.plan_checker.specs.Rules.Rule.Counts 0 (omega arith) in
    let inside : 0 < length s.plan.flows = omega (arith, counts.some_flows) in
    let f = item s.plan.flows 0 inside in
    let flow = good_flow s.plan f is.good (contained s.plan.flows 0 f (item_at s.plan.flows 0 inside)) in
    let short = longest_block-short s.plan is.good in
    let playout = flow.timed.1 in
    let few = is.few in
    let present = is.present in
    omega (arith, short, playout, few, present)

pub in_time : (s : SessionView) → IsSession s → AreInTime s.flows
in_time s is k d inside =
    let small = ticks-small s is in
    let many = is.as_many_flows in
    let here : k < length s.plan.flows = omega (arith, many, inside) in
    let kept = is.flows k (item s.plan.flows k here) (item_at s.plan.flows k here) d in
    let same = kept.tick in
    omega (arith, small, same)

-- ---- the flows of the next tick

module _ (p : Plan) (h t : ℕ) (flows : List FlowInHand) (keep : KeepFlows p h t flows) where
  pub advanced-at : (i : ℕ) (f : Flow) (d : FlowInHand) → slice_get p.flows i ≡ Some f → get_or (map advanced_flow flows) i d ≡ advanced_flow (get_or flows i d)
  advanced-at i f d read =
      let inside = slice_get_within p.flows i f read in
      let many = keep.as_many in
      get_or-map advanced_flow flows i d d (omega (arith, many, inside))

  pub keep-advanced : KeepFlows p h (t + 1) (map advanced_flow flows)
  keep-advanced = record {
    as_many = length-map flows advanced_flow ∙ keep.as_many;
    each = λ i f read d.
        let kept = keep.each i f read d in
        subst (KeepsFlow p h (t + 1) f) (sym (advanced-at i f d read)) (record { window = kept.window; tick = ap (λ x. x + 1) kept.tick });
  }

  pub stands-advanced : HeldIsReceived → (records : List Record) → ((i : ℕ) (f : Flow) → slice_get p.flows i ≡ Some f → HoldsAt (StandsForFlow p h records f) flows i)
      → (i : ℕ) (f : Flow) → slice_get p.flows i ≡ Some f → HoldsAt (StandsForFlow p h records f) (map advanced_flow flows) i
  stands-advanced law records stands i f read d =
      let before = stands i f read d in
      subst (StandsForFlow p h records f) (sym (advanced-at i f d read))
      (record { held = law.after_advance (get_or flows i d).playout (arrivals_of p f records) before.held; taken = before.taken })

-- ---- the part of the frame that is played

unfold_part : (p : Plan) (f : Flow) (h : ℕ) (records : List Record) (n : ℕ) → buffer.part_received (window_of p f h) (arrivals_of p f records) n ≡ part_of_frame p f h records n
unfolding part_of_frame
unfold_part p f h records n = refl

pub octets-received : (p : Plan) (h n place : ℕ) (f : Flow) (flows : List FlowInHand) (records : List Record) → HeldIsReceived → IsGood p → h ≤ 2 ^ 40 → KeepFlows p h (n + p.playout) flows
    → slice_get p.flows place ≡ Some f → ((i : ℕ) (g : Flow) → slice_get p.flows i ≡ Some g → HoldsAt (StandsForFlow p h records g) flows i)
    → octets_in_hand p flows place n ≡ octets_if_good p n (part_of_frame p f h records n)
octets-received p h n place f flows records law good few keep read stands =
    let inside = slice_get_within p.flows place f read in
    let many = keep.as_many in
    let within : place < length flows = omega (arith, many, inside) in
    let kept = item flows place within in
    let at = item_at flows place within in
    let is : get_or flows place kept ≡ kept = get_or_from_slice_get flows place kept kept at in
    let keeps = subst (KeepsFlow p h (n + p.playout) f) is (keep.each place f read kept) in
    let held = (subst (StandsForFlow p h records f) is (stands place f read kept)).held in
    let meets = subst IsWindow (sym keeps.window) (window-meets p f h good (contained p.flows place f read) few) in
    ap (λ o. octets_if_good p n (part_of_kept o n)) at
    ∙ ap (octets_if_good p n)
    (law.part kept.playout n (arrivals_of p f records) meets (ap (λ (w : Window). n + w.playout) keeps.window ∙ sym keeps.tick) held
    ∙ ap (λ w. buffer.part_received w (arrivals_of p f records) n) keeps.window ∙ unfold_part p f h records n)

-- ---- the control word

take-if : (missed : Bool) (w : ℕ) (octets : List ℕ) → option_map (take w) (cond missed None (Some octets)) ≡ cond missed None (Some (take w octets))
take-if true w octets = refl
take-if false w octets = refl

control-if : (p : Plan) (n word : ℕ) (part : Option (List ℕ)) → word ≡ word_size p.option → option_map (take word) (octets_if_good p n part) ≡ control_by p n part
unfolding part_control
control-if p n word None is = refl
control-if p n word (Some part) is =
    ap (λ w. option_map (take w) (cond (is_some (bad_symbol p.mode n part)) None (Some (spelled p.mode part)))) is ∙ take-if (is_some (bad_symbol p.mode n part)) (word_size p.option) (spelled p.mode part)

pub control-received : (p : Plan) (h n word : ℕ) (flows : List FlowInHand) (records : List Record) (control : Option (List ℕ)) → HeldIsReceived → IsGood p → h ≤ 2 ^ 40 → word ≡ word_size p.option
    → KeepFlows p h (n + p.playout) flows → ((i : ℕ) (g : Flow) → slice_get p.flows i ≡ Some g → HoldsAt (StandsForFlow p h records g) flows i)
    → IsControlInHand p flows word n control → control ≡ control_of_frame p h records n
unfolding control_of_frame
control-received p h n word flows records control law good few words keep stands is =
    let f = item p.flows is.place is.inside in
    let read = item_at p.flows is.place is.inside in
    let found : find (λ (g : Flow). g.control) p.flows ≡ Some f = is.has_control f ∙ ap Some (get_or_from_slice_get p.flows is.place f f read) in
    is.is
    ∙ ap (option_map (take word)) (octets-received p h n is.place f flows records law good few keep read stands)
    ∙ control-if p n word (part_of_frame p f h records n) words
    ∙ sym (ap (control_in p h records n) found)

-- ---- the carriers of the next tick

module _ (p : Plan) (h t : ℕ) (flows : List FlowInHand) (old new : List CarrierInHand) (good : IsGood p) (keep : KeepCarriers p h t old)
    (early : t < p.playout → new ≡ old) (played : p.playout ≤ t → HavePlayed p flows (t - p.playout) h old new) where
  pub same-length : length new ≡ length old
  same-length = elim (cases_lt t p.playout) [
    | inl before ↦ ap length (early before)
    | inr after ↦ (played after).as_many
  ]

  keeps-at : (c : ℕ) (carrier : Carrier) (d : CarrierInHand) → slice_get p.carriers c ≡ Some carrier → KeepsCarrier p h (t + 1) c carrier (get_or new c d)
  keeps-at c carrier d read =
      let many = keep.as_many in
      let inside = slice_get_within p.carriers c carrier read in
      let before_play = keep.each c carrier read d in
      elim (cases_lt t p.playout) [
        | inl before ↦
            subst (λ xs. KeepsCarrier p h (t + 1) c carrier (get_or xs c d)) (sym (early before)) (keeps-unplayed p h c carrier good read t (get_or old c d) before before_play)
        | inr after ↦
            keeps-played p h c carrier good read t (t - p.playout) (omega arith) (get_or old c d) (get_or new c d) (octets_in_hand p flows (get_or old c d).flow (t - p.playout)) before_play
            ((played after).each c d (omega (arith, many, inside)))
      ]

  pub keep-played : KeepCarriers p h (t + 1) new
  keep-played = record { as_many = same-length ∙ keep.as_many; each = λ c carrier read d. keeps-at c carrier d read }

  module _ (law : HeldIsReceived) (few : h ≤ 2 ^ 40) (keep_of : KeepFlows p h t flows) (records : List Record)
      (stands_flows : (i : ℕ) (g : Flow) → slice_get p.flows i ≡ Some g → HoldsAt (StandsForFlow p h records g) flows i) where
    pub carriers-stand : (c : ℕ) (carrier : Carrier) (f : Flow) → slice_get p.carriers c ≡ Some carrier → find (lists c) p.flows ≡ Some f
        → HoldsAt (StandsForCarrier p h t records c carrier f) old c → HoldsAt (StandsForCarrier p h (t + 1) records c carrier f) new c
    carriers-stand c carrier f read found before_stands d =
        let many = keep.as_many in
        let inside = slice_get_within p.carriers c carrier read in
        let keeps = keep.each c carrier read d in
        elim (cases_lt t p.playout) [
          | inl before ↦
              subst (λ xs. StandsForCarrier p h (t + 1) records c carrier f (get_or xs c d)) (sym (early before))
              (stands-unplayed p f h records c carrier good read found t before (get_or old c d) (before_stands d))
          | inr after ↦
              let n = t - p.playout in
              let at : t ≡ n + p.playout = omega arith in
              let flow : keeps.flow ≡ f = same_Some keeps.flow f (sym keeps.listed ∙ found) in
              let octets : octets_in_hand p flows (get_or old c d).flow n ≡ octets_if_good p n (part_of_frame p f h records n)
              = octets-received p h n (get_or old c d).flow f flows records law good few (subst (λ u. KeepFlows p h u flows) at keep_of) (keeps.at ∙ ap Some flow) stands_flows in
              stands-played p f h records c carrier good read found t n at (get_or old c d) (get_or new c d) keeps
              (subst (λ o. Plays (get_or old c d) (get_or new c d) o n h) octets ((played after).each c d (omega (arith, many, inside)))) (before_stands d)
        ]

-- ---- the session

-- what a tick makes of a session
pub record Ticks (s s' : SessionView) (word : ℕ) : Type 0 where
  pub plan : s'.plan ≡ s.plan
  pub frames : s'.frames ≡ s.frames
  pub tick : s'.tick ≡ s.tick + 1
  pub flows : s'.flows ≡ map advanced_flow s.flows
  pub early : s.tick < s.plan.playout → s'.carriers ≡ s.carriers
  pub played : s.plan.playout ≤ s.tick → HavePlayed s.plan s.flows (s.tick - s.plan.playout) s.frames s.carriers s'.carriers
  pub control : s.plan.playout ≤ s.tick → IsControlInHand s.plan s.flows word (s.tick - s.plan.playout) s'.control
  pub unlisted : s'.listed ≡ false

module _ (s s' : SessionView) (word : ℕ) (is : IsSession s) (now : s.tick < ticks_of_run s.plan s.frames) (does : Ticks s s' word) where
  carriers-next : KeepCarriers s.plan s.frames (s.tick + 1) s'.carriers
  carriers-next = keep-played s.plan s.frames s.tick s.flows s.carriers s'.carriers is.good (keep_carriers s is) does.early does.played

  flows-next : KeepFlows s.plan s.frames (s.tick + 1) s'.flows
  flows-next = subst (KeepFlows s.plan s.frames (s.tick + 1)) (sym does.flows) (keep-advanced s.plan s.frames s.tick s.flows (keep_flows s is))

  -- the view, as that of the session before with other parts
  abbrev moved : SessionView
  moved = record {
    plan = s.plan;
    frames = s.frames;
    tick = s.tick + 1;
    flows = s'.flows;
    carriers = s'.carriers;
    listed = s'.listed;
    entries = s'.entries;
    control = s'.control;
  }

  is_moved : moved ≡ s'
  is_moved =
      ap (λ p. record { plan = p; frames = s.frames; tick = s.tick + 1; flows = s'.flows; carriers = s'.carriers; listed = s'.listed; entries = s'.entries; control = s'.control }) (sym does.plan)
      ∙ ap (λ h. record { plan = s'.plan; frames = h; tick = s.tick + 1; flows = s'.flows; carriers = s'.carriers; listed = s'.listed; entries = s'.entries; control = s'.control }) (sym does.frames)
      ∙ ap (λ t. record { plan = s'.plan; frames = s'.frames; tick = t; flows = s'.flows; carriers = s'.carriers; listed = s'.listed; entries = s'.entries; control = s'.control }) (sym does.tick)

  pub session-ticked : IsSession s'
  session-ticked = subst IsSession is_moved (record {
    good = is.good;
    few = is.few;
    present = omega arith;
    flows = flows-next.each;
    as_many_flows = flows-next.as_many;
    carriers = carriers-next.each;
    as_many_carriers = carriers-next.as_many;
  })

  control-next : HeldIsReceived → word ≡ word_size s.plan.option → (records : List Record) → StandsFor s records → s.plan.playout < s.tick + 1
      → s'.control ≡ control_of_frame s.plan s.frames records (s.tick + 1 - 1 - s.plan.playout)
  control-next law words records stands late =
      let n = s.tick - s.plan.playout in
      let at : s.tick ≡ n + s.plan.playout = omega arith in
      let same : n ≡ s.tick + 1 - 1 - s.plan.playout = omega arith in
      control-received s.plan s.frames n word s.flows records s'.control law is.good is.few words (subst (λ t. KeepFlows s.plan s.frames t s.flows) at (keep_flows s is)) stands.flows
      (does.control (omega arith))
      ∙ ap (control_of_frame s.plan s.frames records) same

  pub stands-ticked : HeldIsReceived → word ≡ word_size s.plan.option → (records : List Record) → StandsFor s records → StandsFor s' records
  stands-ticked law words records stands = subst (λ v. StandsFor v records) is_moved (record {
    arrived = λ k d inside. let before = stands.arrived k d inside in omega arith;
    flows = λ i f read d. subst (λ xs. StandsForFlow s.plan s.frames records f (get_or xs i d)) (sym does.flows)
        (stands-advanced s.plan s.frames s.tick s.flows (keep_flows s is) law records stands.flows i f read d);
    carriers = λ c carrier f read found.
        carriers-stand s.plan s.frames s.tick s.flows s.carriers s'.carriers is.good (keep_carriers s is) does.early does.played law is.few (keep_flows s is) records stands.flows
        c carrier f read found (stands.carriers c carrier f read found);
    entries = λ listed. absurd (false≢true (sym does.unlisted ∙ listed));
    control = control-next law words records stands;
  })
