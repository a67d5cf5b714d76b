-- What a good plan says of a flow of it.
use Rattle.std.proofs.Common.{◌≡◌, ℕ, ◌<◌, ◌≤◌, length, slice_get, slice_index_or, Some, subst, arith}
use Rattle.std.proofs.lemmas.Option.{get_or_from_slice_get, slice_get_within}
use Rattle.carrier_plan.specs.declared.plan.Flow.{Flow}
use Rattle.carrier_plan.specs.declared.plan.Plan.{Plan}
use Rattle.plan_checker.specs.Flows.{HasPayload, octets_of_frame}
use Rattle.plan_checker.specs.Rules.{IsGood}
use Rattle.plan_checker.specs.Rules.Rule.{ArrivalWindow, PayloadSize, SequenceNumbers, SharedOut}
use Rattle.plan_checker.specs.Run.{frame_octets_of}
use Rattle.plan_checker.specs.Timing.{HasSequenceNumbers, HasWindow}
use Rattle.plan_checker.proofs.Places.{at_place, number_at}

pub record IsGoodFlow (p : Plan) (i : ℕ) (f : Flow) : Type 0 where
  pub inside : i < length p.flows
  pub payload : HasPayload p f
  pub window : HasWindow f
  pub numbers : HasSequenceNumbers f
  pub id : f.id ≤ 255
  pub octets : frame_octets_of p i ≡ octets_of_frame p f

pub good_flow : (p : Plan) (i : ℕ) (f : Flow) → IsGood p → slice_get p.flows i ≡ Some f → IsGoodFlow p i f
good_flow p i f good read =
    let lt = slice_get_within p.flows i f read in
    let shared = good SharedOut 0 (omega arith) in
    let id : ℕ → Flow → Type 0 = λ most x. x.id ≤ most in
    record {
      inside = lt;
      payload = at_place (HasPayload p) p.flows i f read (good PayloadSize i lt);
      window = at_place HasWindow p.flows i f read (good ArrivalWindow i lt);
      numbers = at_place HasSequenceNumbers p.flows i f read (good SequenceNumbers i lt);
      id = subst (id 255) (get_or_from_slice_get p.flows i f f read) (shared.small_ids i f lt);
      octets = number_at (octets_of_frame p) p.flows i f read;
    }

-- the flow that was read from a plan that is seen as this one
pub flow_of : (p q : Plan) (i : ℕ) (f : Flow) → q ≡ p → slice_get q.flows i ≡ Some f → slice_get p.flows i ≡ Some f
flow_of p q i f same read = subst (λ (x : Plan). slice_get x.flows i ≡ Some f) same read

-- it is the one at its place
pub flow_is : (p : Plan) (i : ℕ) (f d : Flow) → slice_get p.flows i ≡ Some f → slice_index_or p.flows i d ≡ f
flow_is p i f d read = get_or_from_slice_get p.flows i f d read
