-- What octets bring for a flow.
use Rattle.std.proofs.Common.{◌≡◌, ◌≢◌, ◌==◌, ℕ, ◌*◌, ◌<◌, ◌≤◌, true, false, cond, List, length, position, get_or, Some, None, slice_get, Ok, sym, ap, ◌∙◌, subst, arith, inl, inr}
use Rattle.std.proofs.lemmas.Bool.{cases_eq, cases_lt, eq-eqb, ne_eqb, and_left, and_right, and_from, both_ways}
use Rattle.std.proofs.lemmas.List.{get_or-map}
use Rattle.std.proofs.lemmas.List.Quantifiers.{position-Some}
use Rattle.std.proofs.lemmas.Option.{get_or_from_slice_get, slice_get_within}
use Rattle.carrier_plan.specs.declared.plan.Flow.{Flow}
use Rattle.carrier_plan.specs.declared.plan.Plan.{Plan}
use Rattle.link_base.specs.Record.{Record}
use Rattle.plan_checker.specs.Flows.{HasPayload, SharesOutCarriers, octets_of_frame}
use Rattle.plan_checker.specs.Packets.{subtype_of}
use Rattle.plan_checker.specs.Rules.{IsGood}
use Rattle.plan_checker.specs.Rules.Rule.{Counts, PayloadSize, SharedOut}
use Rattle.plan_checker.specs.Run.{frame_octets_of}
use Rattle.playout_buffer.specs.Candidate.{candidate_of}
use Rattle.playout_buffer.specs.Received.{arrival_answer}
use Rattle.roe_header.specs.Layout.{Fields}
use Rattle.link_receiver.specs.Answers.{IsOf, IsOfNone, answer_by, on_flow, on_flow_id, on_octets}
use Rattle.link_receiver.specs.Records.{is_of_flow, fits, arrival_by, arrivals_of, window_of}
use Rattle.link_receiver.specs.declared.arrive.Arrive.TheVariants.{Size, Foreign}
use Rattle.link_receiver.specs.declared.arrive.Foreign.TheVariants as cause
use Rattle.link_receiver.proofs.Items.{at_place, none_passes}

-- the octets of a payload of a flow
pub octets_of_payload : (p : Plan) (place : ℕ) (f : Flow) (octets : ℕ) → IsGood p → slice_get p.flows place ≡ Some f → octets ≡ frame_octets_of p place
    → (octets ≡ octets_of_frame p f) × (f.frames * octets ≤ 1_492) × (place < 8)
octets_of_payload p place f octets good read is =
    let inside = slice_get_within p.flows place f read in
    let same : octets ≡ octets_of_frame p f = is ∙ get_or-map (octets_of_frame p) p.flows place f 0 inside ∙ ap (octets_of_frame p) (get_or_from_slice_get p.flows place f f read) in
    let payload : HasPayload p f = at_place (HasPayload p) p.flows place f read (good PayloadSize place inside) in
    let counts = good Counts 0 (omega arith) in
    (same, subst (λ n. f.frames * n ≤ 1_492) (sym same) payload.few_octets, omega (arith, counts.few_flows))

-- flows at two places have different ids
other_place : (p : Plan) (i place : ℕ) (g f : Flow) → IsGood p → slice_get p.flows i ≡ Some g → slice_get p.flows place ≡ Some f → i ≢ place → g.id ≢ f.id
other_place p i place g f good read at other =
    let shared : SharesOutCarriers p.flows (length p.carriers) = good SharedOut 0 (omega arith) in
    let inside = slice_get_within p.flows i g read in
    let within = slice_get_within p.flows place f at in
    let is_g = get_or_from_slice_get p.flows i g g read in
    let is_f = get_or_from_slice_get p.flows place f g at in
    elim (cases_lt i place) [
      | inl below ↦ subst (λ x. x.id ≢ f.id) is_g (subst (λ x. (get_or p.flows i g).id ≢ x.id) is_f (shared.distinct_ids i place g below within))
      | inr above ↦ λ same.
          let apart = subst (λ x. f.id ≢ x.id) is_g (subst (λ x. x.id ≢ (get_or p.flows i g).id) is_f (shared.distinct_ids place i g (omega arith) inside)) in
          apart (sym same)
    ]

module _ (p : Plan) (packet : Fields) (good : IsGood p) where
  -- a packet that does not fit a flow brings nothing for it
  unfit : (f : Flow) (t : ℕ) → fits p f packet ≡ false → arrival_by p f t (Ok packet) ≡ None
  unfit f t wrong = ap (λ b. cond b (Some (record { tick = t; seq = packet.seq; payload = packet.payload })) None) wrong

  other_id : (f : Flow) (t : ℕ) → packet.flow ≢ f.id → arrival_by p f t (Ok packet) ≡ None
  other_id f t other =
      unfit f t (and_left (is_of_flow p f packet) (length packet.payload == f.frames * octets_of_frame p f)
      (and_right (packet.sub == subtype_of p.mode) (packet.flow == f.id) (ne_eqb packet.flow f.id other)))

  on_subtype : (h t : ℕ) (records : List Record) → packet.sub ≡ subtype_of p.mode
      → on_octets p h records t (Ok packet) ≡ on_flow_id p h records t packet (position (λ (f : Flow). f.id == packet.flow) p.flows)
  on_subtype h t records sub =
      ap (λ b. cond b (on_flow_id p h records t packet (position (λ (f : Flow). f.id == packet.flow) p.flows)) (Foreign (cause.Sub packet.sub))) (eq-eqb packet.sub (subtype_of p.mode) sub)

  -- of a packet with an id that no flow has
  pub no_flow : packet.sub ≡ subtype_of p.mode → position (λ (f : Flow). f.id == packet.flow) p.flows ≡ None
      → IsOfNone p (Ok packet) (Foreign (cause.Flow packet.flow))
  no_flow sub none = record {
    none = λ i t f read. other_id f t (λ same.
        both_ways (f.id == packet.flow) (none_passes (λ (g : Flow). g.id == packet.flow) p.flows i f none read) (eq-eqb f.id packet.flow (sym same)));
    answered = λ h t records. on_subtype h t records sub ∙ ap (on_flow_id p h records t packet) none;
  }

  module _ (place : ℕ) (f : Flow) (octets : ℕ) (sub : packet.sub ≡ subtype_of p.mode) (found : position (λ (g : Flow). g.id == packet.flow) p.flows ≡ Some place)
      (at : slice_get p.flows place ≡ Some f) (is : octets ≡ frame_octets_of p place) where
    the_id : packet.flow ≡ f.id
    the_id =
        let passes : (f.id == packet.flow) ≡ true = subst (λ (g : Flow). (g.id == packet.flow) ≡ true) (get_or_from_slice_get p.flows place f f at) (position-Some (λ (g : Flow). g.id == packet.flow) p.flows place f found).1 in
        elim (cases_eq packet.flow f.id) [
          | inl same ↦ same
          | inr other ↦ absurd (both_ways (f.id == packet.flow) (ne_eqb f.id packet.flow (λ e. other (sym e))) passes)
        ]

    elsewhere : (i t : ℕ) (g : Flow) → slice_get p.flows i ≡ Some g → i ≢ place → arrival_by p g t (Ok packet) ≡ None
    elsewhere i t g read other = other_id g t (λ same. other_place p i place g f good read at other (sym same ∙ the_id))

    here : (h t : ℕ) (records : List Record) → on_octets p h records t (Ok packet) ≡ on_flow p (Some f) h records t place packet
    here h t records =
        on_subtype h t records sub ∙ ap (on_flow_id p h records t packet) found ∙ ap (λ o. on_flow p o h records t place packet) at

    length_of : f.frames * octets ≡ f.frames * octets_of_frame p f
    length_of = ap (λ n. f.frames * n) (octets_of_payload p place f octets good at is).0

    -- of a packet of a flow whose payload has another length
    pub other_size : length packet.payload ≢ f.frames * octets → IsOfNone p (Ok packet) (Size place (length packet.payload))
    other_size other =
        let wrong : (length packet.payload == f.frames * octets_of_frame p f) ≡ false = ne_eqb (length packet.payload) (f.frames * octets_of_frame p f) (λ e. other (e ∙ sym length_of)) in record {
          none = λ i t g read. elim (cases_eq i place) [
            | inl same ↦
                let this : g ≡ f = sym (get_or_from_slice_get p.flows i g f read) ∙ ap (λ k. get_or p.flows k f) same ∙ get_or_from_slice_get p.flows place f f at in
                subst (λ x. arrival_by p x t (Ok packet) ≡ None) (sym this) (unfit f t (and_right (is_of_flow p f packet) (length packet.payload == f.frames * octets_of_frame p f) wrong))
            | inr apart ↦ elsewhere i t g read apart
          ];
          answered = λ h t records. here h t records
              ∙ ap (λ b. cond b (answer_by place packet.seq (arrival_answer (window_of p f h) (arrivals_of p f records) (candidate_of (window_of p f h) t packet.seq))) (Size place (length packet.payload))) wrong;
        }

    -- of a packet that fits a flow
    pub of_flow : length packet.payload ≡ f.frames * octets → IsOf p (Ok packet) place packet.seq packet.payload
    of_flow size =
        let right : (length packet.payload == f.frames * octets_of_frame p f) ≡ true = eq-eqb (length packet.payload) (f.frames * octets_of_frame p f) (size ∙ length_of) in record {
          flow = f;
          at = at;
          length_is = size ∙ length_of;
          brings = λ t. ap (λ b. cond b (Some (record { tick = t; seq = packet.seq; payload = packet.payload })) None)
              (and_from (is_of_flow p f packet) (length packet.payload == f.frames * octets_of_frame p f)
              (and_from (packet.sub == subtype_of p.mode) (packet.flow == f.id) (eq-eqb packet.sub (subtype_of p.mode) sub) (eq-eqb packet.flow f.id the_id)) right);
          only = λ i t g read other. elsewhere i t g read other;
          answered = λ h t records. here h t records
              ∙ ap (λ b. cond b (answer_by place packet.seq (arrival_answer (window_of p f h) (arrivals_of p f records) (candidate_of (window_of p f h) t packet.seq))) (Size place (length packet.payload))) right;
        }
