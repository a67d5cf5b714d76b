-- What a session stands for after a record.
use Rattle.std.proofs.Common.{◌≡◌, ◌≢◌, ℕ, zero, suc, ◌-◌, ◌<◌, ◌≤◌, ◌^◌, List, [], ◌∷◌, ◌++◌, length, map, get_or, set, Contains, Some, slice_get, refl, sym, ap, ◌∙◌, subst, arith, inl, inr}
use Rattle.std.specs.List.{HoldsAt, range_with_len}
use Rattle.std.proofs.lemmas.Bool.{cases_eq}
use Rattle.std.proofs.lemmas.List.{get_or-set_same, get_or-set_other, length-set}
use Rattle.std.proofs.lemmas.List.Elements.{All-push}
use Rattle.std.proofs.lemmas.Option.{slice_get_within, get_or_from_slice_get}
use Rattle.carrier_plan.specs.declared.plan.Carrier.{Carrier}
use Rattle.carrier_plan.specs.declared.plan.Flow.{Flow}
use Rattle.carrier_plan.specs.declared.plan.Plan.{Plan}
use Rattle.link_base.specs.Record.{Record}
use Rattle.plan_checker.specs.Flows.{lists}
use Rattle.plan_checker.specs.Rules.{IsGood}
use Rattle.playout_buffer.specs.Laws.{HeldIsReceived, TakenAreCounted}
use Rattle.playout_buffer.specs.declared.put.Put.{Put}
use Rattle.roe_header.specs.Layout.{parsed}
use Rattle.link_receiver.specs.Answers.{IsOf, IsOfNone, answer_by, arrives, on_octets}
use Rattle.link_receiver.specs.Containers.{block_start, container_of_frame, containers_in_hand, control_of_frame}
use Rattle.link_receiver.specs.Output.{entries_before}
use Rattle.link_receiver.specs.Runs.{entries_of_before}
use Rattle.link_receiver.specs.Sessions.{SessionView, IsSession, KeepsFlow, StandsFor, StandsForFlow}
use Rattle.link_receiver.specs.declared.arrive.Arrive.{Arrive}
use Rattle.link_receiver.specs.declared.flow_in_hand.FlowInHand.{FlowInHand}
use Rattle.link_receiver.proofs.Items.{contained}
use Rattle.link_receiver.proofs.Settled.{containers_in_hand-later, control_of_frame-later, entries_before-later, entries_of_before-later, found-contained}
use Rattle.link_receiver.proofs.Taking.{Takes, answer-received, at_tick, stands-same, stands-taken}
use Rattle.link_receiver.proofs.Windows.{window-meets}

-- what was played before tick t is the same by more records
pub record IsUnmoved (p : Plan) (h t : ℕ) (records more : List Record) : Type 0 where
  pub containers : (f : Flow) (carrier : Carrier) → Contains p.flows f → containers_in_hand p f h more carrier (t - p.playout) ≡ containers_in_hand p f h records carrier (t - p.playout)
  pub entries : (c : ℕ) → entries_of_before p h more t c ≡ entries_of_before p h records t c
  pub all_entries : entries_before p h more t ≡ entries_before p h records t
  pub control : p.playout < t → control_of_frame p h more (t - 1 - p.playout) ≡ control_of_frame p h records (t - 1 - p.playout)

-- no frame is in hand before the first is played
pub none_in_hand : (p : Plan) (f : Flow) (h : ℕ) (records : List Record) (carrier : Carrier) (n : ℕ) → n ≡ 0 → containers_in_hand p f h records carrier n ≡ []
none_in_hand p f h records carrier n zero_frames =
    let none : n - block_start carrier.k n ≡ 0 = omega arith in
    ap (λ count. map (container_of_frame p f h records carrier) (range_with_len (block_start carrier.k n) count)) none

ticks_from : (t : ℕ) (octets : List ℕ) (x k : ℕ) (d : Record) → x < t → k < 1 → x < (get_or (at_tick t octets ∷ []) k d).tick
ticks_from t octets x zero d before less = before
ticks_from t octets x (suc k) d before less = absurd (omega arith)

ticks_at : (t : ℕ) (octets : List ℕ) (k : ℕ) (d : Record) → k < 1 → t ≤ (get_or (at_tick t octets ∷ []) k d).tick
ticks_at t octets zero d less = omega arith
ticks_at t octets (suc k) d less = absurd (omega arith)

containers-unmoved : (p : Plan) (h t : ℕ) (records : List Record) (octets : List ℕ) (f : Flow) (carrier : Carrier) → IsGood p → Contains p.flows f
    → containers_in_hand p f h (records ++ at_tick t octets ∷ []) carrier (t - p.playout) ≡ containers_in_hand p f h records carrier (t - p.playout)
containers-unmoved p h zero records octets f carrier good here =
    none_in_hand p f h (records ++ at_tick 0 octets ∷ []) carrier (0 - p.playout) (omega arith) ∙ sym (none_in_hand p f h records carrier (0 - p.playout) (omega arith))
containers-unmoved p h (suc x) records octets f carrier good here =
    containers_in_hand-later p f h records (at_tick (suc x) octets ∷ []) good here carrier (suc x) x (omega arith) (λ k d less. ticks_from (suc x) octets x k d (omega arith) less)

pub is_unmoved : (p : Plan) (h t : ℕ) (records : List Record) (octets : List ℕ) → IsGood p → IsUnmoved p h t records (records ++ at_tick t octets ∷ [])
is_unmoved p h t records octets good = record {
  containers = λ f carrier here. containers-unmoved p h t records octets f carrier good here;
  entries = λ c. entries_of_before-later p h records (at_tick t octets ∷ []) good t c (ticks_at t octets);
  all_entries = entries_before-later p h records (at_tick t octets ∷ []) good t (ticks_at t octets);
  control = λ played. control_of_frame-later p h records (at_tick t octets ∷ []) good (t - 1 - p.playout) (t - 1) (omega arith)
      (λ k d less. ticks_from t octets (t - 1) k d (omega arith) less);
}

unfold_arrives : (p : Plan) (h : ℕ) (records : List Record) (t : ℕ) (octets : List ℕ) → arrives p h records t octets ≡ on_octets p h records t (parsed octets)
unfolding arrives
unfold_arrives p h records t octets = refl

-- another list of flows
abbrev pub with_flows : SessionView → List FlowInHand → SessionView
with_flows s flows = record {
  plan = s.plan;
  frames = s.frames;
  tick = s.tick;
  flows = flows;
  carriers = s.carriers;
  listed = s.listed;
  entries = s.entries;
  control = s.control;
}

-- what remains to be said after a record is of the flows
pub stands-with : (s : SessionView) (flows : List FlowInHand) (octets : List ℕ) (records : List Record) → StandsFor s records → IsUnmoved s.plan s.frames s.tick records (records ++ at_tick s.tick octets ∷ [])
    → ((i : ℕ) (f : Flow) → slice_get s.plan.flows i ≡ Some f → HoldsAt (StandsForFlow s.plan s.frames (records ++ at_tick s.tick octets ∷ []) f) flows i)
    → StandsFor (with_flows s flows) (records ++ at_tick s.tick octets ∷ [])
stands-with s flows octets records stands unmoved each = record {
  arrived = All-push (λ r. r.tick ≤ s.tick) records (at_tick s.tick octets) stands.arrived (omega arith);
  flows = each;
  carriers = λ c carrier f read listed d.
      let before = stands.carriers c carrier f read listed d in record {
        containers = before.containers ∙ sym (unmoved.containers f carrier (found-contained (lists c) s.plan.flows f listed));
        entries = before.entries ∙ sym (unmoved.entries c);
      };
  entries = λ listed. stands.entries listed ∙ sym unmoved.all_entries;
  control = λ late. stands.control late ∙ sym (unmoved.control late);
}

-- ---- a record that brings nothing

pub stands-none : (s : SessionView) (octets : List ℕ) (answer : Arrive) (records : List Record) → IsOfNone s.plan (parsed octets) answer
    → IsUnmoved s.plan s.frames s.tick records (records ++ at_tick s.tick octets ∷ []) → StandsFor s records
    → (answer ≡ arrives s.plan s.frames records s.tick octets) × StandsFor s (records ++ at_tick s.tick octets ∷ [])
stands-none s octets answer records is unmoved stands = (
  sym (unfold_arrives s.plan s.frames records s.tick octets ∙ is.answered s.frames s.tick records),
  stands-with s s.flows octets records stands unmoved (λ i f read d. stands-same s.plan s.frames records f (get_or s.flows i d) s.tick octets (is.none i s.tick f read) (stands.flows i f read d)),
)

-- ---- a record that brings a payload for a flow

module _ (s : SessionView) (is : IsSession s) (octets payload : List ℕ) (place seq : ℕ) (of : IsOf s.plan (parsed octets) place seq payload) where
  pub place-inside : place < length s.flows
  place-inside = let inside = slice_get_within s.plan.flows place of.flow of.at in omega (arith, inside, is.as_many_flows)

  pub place-small : place < 2 ^ 32
  place-small =
      let inside = slice_get_within s.plan.flows place of.flow of.at in
      let few = (is.good Rattle.plan_checker.specs.Rules.Rule.Counts 0 (omega arith)).few_flows in
      omega (arith, inside, few)

  module _ (kept kept' : FlowInHand) (put : Put) (here : get_or s.flows place kept ≡ kept) (takes : Takes kept kept' seq payload put) where
    keeps : KeepsFlow s.plan s.frames s.tick of.flow kept
    keeps = subst (KeepsFlow s.plan s.frames s.tick of.flow) here (is.flows place of.flow of.at kept)

    keeps-still : KeepsFlow s.plan s.frames s.tick of.flow kept'
    keeps-still = record { window = ap (λ v. v.window) takes.held ∙ keeps.window; tick = ap (λ v. v.tick) takes.held ∙ keeps.tick }

    -- at each place of the flows, what holds of the flow that took the payload, or of the flow as it was
    each-place : (P : Flow → FlowInHand → Type 0) → P of.flow kept' → ((i : ℕ) (f : Flow) → i ≢ place → slice_get s.plan.flows i ≡ Some f → HoldsAt (P f) s.flows i)
        → (i : ℕ) (f : Flow) → slice_get s.plan.flows i ≡ Some f → HoldsAt (P f) (set s.flows place kept') i
    each-place P this others i f read d = elim (cases_eq i place) [
      | inl same ↦
          let flow : f ≡ of.flow = sym (get_or_from_slice_get s.plan.flows i f f read) ∙ ap (λ k. get_or s.plan.flows k f) same ∙ get_or_from_slice_get s.plan.flows place of.flow f of.at in
          subst (P f) (sym (ap (λ k. get_or (set s.flows place kept') k d) same ∙ get_or-set_same s.flows place kept' d place-inside)) (subst (λ g. P g kept') (sym flow) this)
      | inr other ↦ subst (P f) (sym (get_or-set_other s.flows place i kept' d other)) (others i f other read d)
    ]

    pub session-taken : IsSession (with_flows s (set s.flows place kept'))
    session-taken = record {
      good = is.good;
      few = is.few;
      present = is.present;
      flows = each-place (λ f k. KeepsFlow s.plan s.frames s.tick f k) keeps-still (λ i f other read d. is.flows i f read d);
      as_many_flows = length-set s.flows place kept' ∙ is.as_many_flows;
      carriers = is.carriers;
      as_many_carriers = is.as_many_carriers;
    }

    pub stands-place : HeldIsReceived → TakenAreCounted → (records : List Record) → IsUnmoved s.plan s.frames s.tick records (records ++ at_tick s.tick octets ∷ []) → StandsFor s records
        → (answer_by place seq put ≡ arrives s.plan s.frames records s.tick octets) × StandsFor (with_flows s (set s.flows place kept')) (records ++ at_tick s.tick octets ∷ [])
    stands-place law counted records unmoved stands =
        let flow = of.flow in
        let meets = window-meets s.plan flow s.frames is.good (contained s.plan.flows place flow of.at) is.few in
        let before = subst (StandsForFlow s.plan s.frames records flow) here (stands.flows place flow of.at kept) in (
          ap (answer_by place seq) (answer-received s.plan s.frames records flow kept s.tick seq octets payload put law counted meets keeps (of.brings s.tick) before takes.answered)
              ∙ sym (unfold_arrives s.plan s.frames records s.tick octets ∙ of.answered s.frames s.tick records),
          stands-with s (set s.flows place kept') octets records stands unmoved
              (each-place (λ f k. StandsForFlow s.plan s.frames (records ++ at_tick s.tick octets ∷ []) f k)
              (stands-taken s.plan s.frames records flow kept s.tick seq octets payload put law counted meets keeps (of.brings s.tick) before kept' takes)
              (λ i f other read d. stands-same s.plan s.frames records f (get_or s.flows i d) s.tick octets (of.only i s.tick f read other) (stands.flows i f read d))),
        )
