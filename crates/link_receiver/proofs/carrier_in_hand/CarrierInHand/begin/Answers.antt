use Rattle.std.proofs.Common.{◌≡◌, ◌<◌, [], length, Some, find, get_or, slice_get, sym, ap, ◌∙◌, subst, arith, refl}
use Rattle.std.proofs.lemmas.Option.{get_or_from_slice_get, slice_get-get_or}
use Rattle.carrier_plan.specs.declared.plan.Carrier.{Carrier}
use Rattle.carrier_plan.specs.declared.plan.Flow.{Flow}
use Rattle.carrier_plan.specs.declared.plan.Plan.{Plan}
use Rattle.link_receiver_blocks.specs.Containers.{mapping_of}
use Rattle.plan_checker.specs.Flows.{lists}
use Rattle.plan_checker.specs.Rules.{IsGood}
use Rattle.link_receiver.proofs.Items.{contains-listed, found-passes}
use Rattle.link_receiver.proofs.OctetsInHand.{item}
use Rattle.link_receiver.proofs.Places.{good_carrier}
use Rattle.link_receiver.proofs.carrier_in_hand.CarrierInHand.begin.Goals as goal

pub of-requires-clause-listed : goal.of-requires-clause-listed
of-requires-clause-listed c d =
    let found = subst (λ (p : Plan). find (lists c.args.c) p.flows ≡ Some (get_or p.flows c.flow_of_carrier-flow.result d)) c.plan-plan.ensures.same (c.flow_of_carrier-flow.ensures.flow d) in
    let flow = get_or c.args.checked.now.flows c.flow_of_carrier-flow.result d in
    contains-listed flow.carriers c.args.c (found-passes (lists c.args.c) c.args.checked.now.flows flow found)

pub begin-requires-clause-rate : goal.begin-requires-clause-rate
begin-requires-clause-rate c =
    let same = c.plan-plan.ensures.same in
    (good_carrier c.args.checked.now c.args.c c.at-carrier.result.now (subst IsGood same c.plan-plan.ensures.good)
    (subst (λ (p : Plan). slice_get p.carriers c.args.c ≡ Some c.at-carrier.result.now) same c.at-carrier.ensures)).rate

pub begin-requires-clause-width : goal.begin-requires-clause-width
begin-requires-clause-width c =
    let same = c.plan-plan.ensures.same in
    (good_carrier c.args.checked.now c.args.c c.at-carrier.result.now (subst IsGood same c.plan-plan.ensures.good)
    (subst (λ (p : Plan). slice_get p.carriers c.args.c ≡ Some c.at-carrier.result.now) same c.at-carrier.ensures)).width

pub returns : goal.returns
returns c d =
    let p = c.args.checked.now in
    let same = c.plan-plan.ensures.same in
    let place = c.flow_of_carrier-flow.result in
    let inside = subst (λ (q : Plan). place < length q.flows) same c.flow_of_carrier-flow.ensures.inside in
    let f : Flow = item p.flows place inside in
    let flow = get_or p.flows place f in
    let read = subst (λ (q : Plan). slice_get q.carriers c.args.c ≡ Some c.at-carrier.result.now) same c.at-carrier.ensures in
    let carrier : c.at-carrier.result.now ≡ get_or p.carriers c.args.c d = sym (get_or_from_slice_get p.carriers c.args.c c.at-carrier.result.now d read) in
    record {
      flow = flow;
      at = slice_get-get_or p.flows place f inside;
      listed = subst (λ (q : Plan). find (lists c.args.c) q.flows ≡ Some (get_or q.flows place f)) same (c.flow_of_carrier-flow.ensures.flow f);
      block_frames = ap (λ (x : Carrier). x.k) carrier;
      route = c.of.ensures f d;
      block = c.in_ok-begin.ensures ∙ ap (λ (x : Carrier). record { mapping = mapping_of x; containers = [] }) carrier;
      room = omega (arith, c.in_ok-vec.ensures.len, c.in_ok-vec.field-0.ok.0);
      number = refl;
      count = refl;
    }
