use Rattle.std.proofs.Common.{◌≡◌, ◌+◌, ℕ, length, Some, slice_get, sym, ap, ◌∙◌, subst, arith, refl}
use Rattle.carrier_plan.specs.declared.plan.Flow.{Flow}
use Rattle.carrier_plan.specs.declared.plan.Plan.{Plan}
use Rattle.std.specs.FinMap.{empty}
use Rattle.std.proofs.lemmas.Option.{slice_get_within}
use Rattle.link_receiver.specs.Flows.{IsBegunFlow}
use Rattle.link_receiver.specs.Records.{window_of}
use Rattle.link_receiver.specs.declared.flow_in_hand.FlowInHand.{FlowInHand}
use Rattle.playout_buffer.specs.declared.window.Window.{Window}
use Rattle.link_receiver.proofs.Items.{Fills, fills-none, fills-push, at_place}
use Rattle.link_receiver.proofs.flow_in_hand.flows_in_hand.Goals as goal

pub loop-f-init : goal.loop-f-init
loop-f-init c =
    let is_begun : ℕ → FlowInHand → Type 0 = λ i kept. (f : Flow) → slice_get c.args.checked.now.flows i ≡ Some f → IsBegunFlow c.args.checked.now c.args.frames f kept in
    subst (Fills is_begun 0) (sym c.in_ok-kept.ensures.items) (fills-none is_begun)

pub loop-f-preserved : goal.loop-f-preserved
loop-f-preserved c =
    let p = c.args.checked.now in
    let is_begun : ℕ → FlowInHand → Type 0 = λ i kept. (f : Flow) → slice_get p.flows i ≡ Some f → IsBegunFlow p c.args.frames f kept in
    subst (Fills is_begun (c.loop-f.f + 1)) (sym c.in_ok-push.ensures.items)
    (fills-push is_begun c.loop-f.f c.loop-f.kept.items (record { playout = c.in_ok-playout.playout; taken = 0 }) c.loop-f.invariant
    (λ f read.
    let window : c.window_of.result ≡ window_of p f c.args.frames = at_place (λ (g : Flow). c.window_of.result ≡ window_of p g c.args.frames) p.flows c.loop-f.f f read c.window_of.ensures.window in
    record {
      playout = c.in_ok-playout.ensures ∙ ap (λ (w : Window). record { window = w; tick = 0; held = empty }) window;
      taken = refl;
    }))

pub returns : goal.returns
returns c =
    let same = ap (λ (p : Plan). length p.flows) c.plan.ensures.same in
    let is = c.loop-f.invariant in
    let count = c.len-flows.ensures in
    record {
      as_many = omega (arith, is.as_many, same, count, c.loop-f-test.false, c.loop-f.auto.f-end);
      each = λ i f read. let inside = slice_get_within c.args.checked.now.flows i f read in λ d. is.each i (omega (arith, inside, same, count, c.loop-f-test.false)) d f read;
    }
