-- Records that are packets of a stream, each in its window, are unaltered and fresh.
use Rattle.std.proofs.Common.{◌≡◌, ◌==◌, ℕ, ◌*◌, ◌<◌, List, All, Contains, length, get_or, Some, Result, Ok, Err, inl, inr, refl, sym, ◌∙◌, subst, arith}
use Rattle.std.proofs.lemmas.Bool.{and_parts, cases_order, eqb-true}
use Rattle.std.proofs.lemmas.List.{get_or_default}
use Rattle.std.proofs.lemmas.List.Elements.{All-weaker}
use Rattle.std.proofs.lemmas.Option.{cond_some, none-some, same_Some}
use Rattle.carrier_plan.specs.declared.plan.Flow.{Flow}
use Rattle.carrier_plan.specs.declared.plan.Plan.{Plan}
use Rattle.link_base.specs.Record.{Record}
use Rattle.link_base.specs.Window.{IsOpen}
use Rattle.link_receiver.specs.Laws.{CandidatesAreUnique}
use Rattle.link_receiver.specs.Records.{IsOfFlow, arrival_by, arrival_of, fits, is_of_flow, window_of}
use Rattle.link_run_delay.proofs.ReceivedPackets.{arrival, arrival_of-packet}
use Rattle.link_run_delay.specs.Delay.{AreFresh, AreUnaltered, IsOfStream, IsPlain}
use Rattle.link_sender.specs.Packets.{IsPacket}
use Rattle.link_sender.specs.Stream.{Stream}
use Rattle.plan_checker.specs.Flows.{octets_of_frame}
use Rattle.plan_checker.specs.Packets.{run_packets, subtype_of}
use Rattle.plan_checker.specs.Rules.{IsGood}
use Rattle.plan_checker.specs.Rules.Rule.{SharedOut}
use Rattle.playout_buffer.specs.Candidate.{IsCandidate}
use Rattle.playout_buffer.specs.Received.{Arrival}
use Rattle.roe_header.specs.Layout.{Fields, parsed}
use Rattle.roe_header.specs.declared.packet.NotRoe.{NotRoe}

-- the record is a packet of a flow, at a tick of its window
pub record IsInWindow (p : Plan) (h : ℕ) (σ : Stream) (r : Record) : Type 0 where
  pub flow : Flow
  pub listed : Contains p.flows flow
  pub number : ℕ
  pub in_run : number < run_packets p flow h
  pub open_then : IsOpen flow.frames flow.lmin flow.lmax r.tick number
  pub packet : IsPacket p σ flow number r.octets

-- ---- octets are of one flow

module _ (p : Plan) (good : IsGood p) where
  same_id : (f g : Flow) (octets : List ℕ) → IsOfFlow p f octets → IsOfFlow p g octets → f.id ≡ g.id
  same_id f g octets one other =
      let read : one.0 ≡ other.0 = let both = sym one.1 ∙ other.1 in cc in
      let ours = and_parts (one.0.sub == subtype_of p.mode) (one.0.flow == f.id) one.2 in
      let theirs = and_parts (other.0.sub == subtype_of p.mode) (other.0.flow == g.id) other.2 in
      sym (eqb-true one.0.flow f.id ours.1) ∙ (let same : one.0.flow ≡ other.0.flow = cc in same) ∙ eqb-true other.0.flow g.id theirs.1

  same_flow : (f g : Flow) → Contains p.flows f → Contains p.flows g → f.id ≡ g.id → f ≡ g
  same_flow f g at there same =
      let apart = (good SharedOut 0 (omega arith)).distinct_ids in
      let is_f : get_or p.flows at.0 g ≡ f = get_or_default p.flows at.0 g f at.1 ∙ at.2 in
      elim (cases_order at.0 there.0) [
        | inl here ↦ sym is_f ∙ subst (λ k. get_or p.flows k g ≡ g) (sym here) there.2
        | inr order ↦ elim order [
          | inl before ↦
              absurd (subst (λ x. x.id ≡ g.id → ⊥) is_f (subst (λ x. (get_or p.flows at.0 g).id ≡ x.id → ⊥) there.2 (apart at.0 there.0 g before there.1)) same)
          | inr after ↦
              absurd (subst (λ x. g.id ≡ x.id → ⊥) is_f (subst (λ x. x.id ≡ (get_or p.flows at.0 g).id → ⊥) there.2 (apart there.0 at.0 g after at.1)) (sym same))
        ]
      ]

  of_flow_by : (f : Flow) (t : ℕ) (octets : List ℕ) (a : Arrival) (read : Result Fields NotRoe) → parsed octets ≡ read → arrival_by p f t read ≡ Some a → IsOfFlow p f octets
  of_flow_by f t octets a (Err reason) is arrives = absurd (none-some a arrives)
  of_flow_by f t octets a (Ok packet) is arrives =
      let fit = cond_some (fits p f packet) (record { tick = t; seq = packet.seq; payload = packet.payload }) a arrives in
      (packet, is, (and_parts (is_of_flow p f packet) (length packet.payload == f.frames * octets_of_frame p f) fit.0).0)

  of_flow : (f : Flow) (r : Record) (a : Arrival) → arrival_of p f r ≡ Some a → IsOfFlow p f r.octets
  of_flow f r a arrives = of_flow_by f r.tick r.octets a (parsed r.octets) refl arrives

-- ---- all records

module _ (p : Plan) (h : ℕ) (σ : Stream) (good : IsGood p) (plain : IsPlain p) where
  abbrev In : Record → Type 0
  In = IsInWindow p h σ

  its_arrival : (r : Record) (comes : In r) → arrival_of p comes.flow r ≡ Some (arrival p h σ comes.flow good plain comes.listed r.tick comes.number comes.packet.payload)
  its_arrival r comes = arrival_of-packet p h σ comes.flow good plain comes.listed comes.number r comes.packet

  -- a flow of which its octets are is its own
  one_flow : (r : Record) (comes : In r) (g : Flow) → Contains p.flows g → IsOfFlow p g r.octets → comes.flow ≡ g
  one_flow r comes g listed of_g =
      let own = of_flow p good comes.flow r _ (its_arrival r comes) in
      same_flow p good comes.flow g comes.listed listed (same_id p good comes.flow g r.octets own of_g)

  pub unaltered : (records : List Record) → All In records → AreUnaltered p h σ records
  unaltered records all =
      All-weaker In (λ r. (g : Flow) → Contains p.flows g → IsOfFlow p g r.octets → IsOfStream p h σ g r.octets)
      (λ r comes g listed of_g. subst (λ x. IsOfStream p h σ x r.octets) (one_flow r comes g listed of_g) (comes.number, comes.in_run, comes.packet)) records all

  -- a record is taken for the packet that it is
  abbrev TakenFor : Flow → Record → ℕ → Arrival → Type 0
  TakenFor f r i a = arrival_of p f r ≡ Some a → IsCandidate (window_of p f h) a.tick a.seq i → IsPacket p σ f i r.octets

  taken_for : CandidatesAreUnique → (r : Record) (comes : In r) (i : ℕ) (a : Arrival) → TakenFor comes.flow r i a
  taken_for unique r comes i a arrives candidate =
      let f = comes.flow in
      let its = arrival p h σ f good plain comes.listed r.tick comes.number comes.packet.payload in
      let same : its ≡ a = same_Some its a (sym (its_arrival r comes) ∙ arrives) in
      let own : IsCandidate (window_of p f h) its.tick its.seq comes.number = record { within = comes.in_run; number = refl; arrives = comes.open_then } in
      let also : IsCandidate (window_of p f h) a.tick a.seq comes.number = subst (λ (x : Arrival). IsCandidate (window_of p f h) x.tick x.seq comes.number) same own in
      subst (λ n. IsPacket p σ f n r.octets) (unique p f h a.tick a.seq comes.number i good comes.listed also candidate) comes.packet

  pub fresh : CandidatesAreUnique → (records : List Record) → All In records → AreFresh p h σ records
  fresh unique records all =
      All-weaker In (λ r. (g : Flow) (i : ℕ) (a : Arrival) → Contains p.flows g → TakenFor g r i a)
      (λ r comes g i a listed arrives candidate.
      subst (λ x. TakenFor x r i a) (one_flow r comes g listed (of_flow p good g r a arrives)) (taken_for unique r comes i a) arrives candidate) records all
