use Rattle.std.proofs.Common.{◌<◌, ◌^◌, get_or, set, refl, sym, ap, ◌∙◌, subst, arith}
use Rattle.link_receiver.specs.Flows.{advanced_flow}
use Rattle.link_receiver.specs.declared.flow_in_hand.FlowInHand.{FlowInHand}
use Rattle.link_receiver.proofs.Items.{get_or-partly, set-partly, partly-all}
use Rattle.link_receiver.proofs.flow_in_hand.advance_all.Goals as goal

pub advance-requires : goal.advance-requires
advance-requires c =
    let here = ap (λ xs. get_or xs c.loop-f.f c.index-flows-f.result) c.loop-f.invariant ∙ get_or-partly advanced_flow c.loop-f.f c.args.flows.now c.index-flows-f.result c.loop-f-test.true in
    subst (λ (kept : FlowInHand). kept.playout.tick < 2 ^ 41) (sym here) (c.requires c.loop-f.f c.index-flows-f.result c.loop-f-test.true)

pub loop-f-init : goal.loop-f-init
loop-f-init c = refl

pub loop-f-preserved : goal.loop-f-preserved
loop-f-preserved c =
    let here = ap (λ xs. get_or xs c.loop-f.f c.index-flows-f.result) c.loop-f.invariant ∙ get_or-partly advanced_flow c.loop-f.f c.args.flows.now c.index-flows-f.result c.loop-f-test.true in
    ap (λ v. set c.loop-f.flows c.loop-f.f (record { playout = v; taken = (get_or c.loop-f.flows c.loop-f.f c.index-flows-f.result).taken })) c.advance.ensures
    ∙ ap (λ (kept : FlowInHand). set c.loop-f.flows c.loop-f.f (advanced_flow kept)) here
    ∙ ap (λ xs. set xs c.loop-f.f (advanced_flow (get_or c.args.flows.now c.loop-f.f c.index-flows-f.result))) c.loop-f.invariant
    ∙ set-partly advanced_flow c.loop-f.f c.args.flows.now c.index-flows-f.result c.loop-f-test.true

pub returns : goal.returns
returns c = c.loop-f.invariant ∙ partly-all advanced_flow c.loop-f.f c.args.flows.now (omega (arith, c.loop-f-test.false))
