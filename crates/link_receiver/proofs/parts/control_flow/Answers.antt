use Rattle.std.proofs.Common.{◌<◌, Some, get_or, length, sym, ap, ◌∙◌, subst, arith}
use Rattle.std.specs.Option.{unwrap_or}
use Rattle.carrier_plan.specs.declared.plan.Flow.{Flow}
use Rattle.plan_checker.specs.Rules.Rule.{SharedOut}
use Rattle.link_receiver.proofs.Items.{found-passes, one_passes, one_place}
use Rattle.link_receiver.proofs.parts.control_flow.Goals as goal

pub returns-clause-flow : goal.returns-clause-flow
returns-clause-flow c d =
    let one = (c.requires SharedOut 0 (omega arith)).one_control in
    let place = c.unwrap_or.ensures ∙ ap (λ o. unwrap_or o 0) c.first_with_control.ensures in
    (one_passes (λ (f : Flow). f.control) c.args.plan.now.flows d one) ∙ ap (λ k. Some (get_or c.args.plan.now.flows k d)) (sym place)

pub returns-clause-inside : goal.returns-clause-inside
returns-clause-inside c =
    let one = (c.requires SharedOut 0 (omega arith)).one_control in
    let place = c.unwrap_or.ensures ∙ ap (λ o. unwrap_or o 0) c.first_with_control.ensures in
    subst (λ k. k < length c.args.plan.now.flows) (sym place) (one_place (λ (f : Flow). f.control) c.args.plan.now.flows one)

pub returns-clause-has_control : goal.returns-clause-has_control
returns-clause-has_control c d =
    let one = (c.requires SharedOut 0 (omega arith)).one_control in
    let place = c.unwrap_or.ensures ∙ ap (λ o. unwrap_or o 0) c.first_with_control.ensures in
    found-passes (λ (f : Flow). f.control) c.args.plan.now.flows (get_or c.args.plan.now.flows c.unwrap_or.result d)
    ((one_passes (λ (f : Flow). f.control) c.args.plan.now.flows d one) ∙ ap (λ k. Some (get_or c.args.plan.now.flows k d)) (sym place))
