use Rattle.std.proofs.Common.{◌<◌, Some, get_or, length, sym, ap, ◌∙◌, subst, arith}
use Rattle.std.specs.Option.{unwrap_or}
use Rattle.plan_checker.specs.Flows.{lists}
use Rattle.plan_checker.specs.Rules.Rule.{SharedOut}
use Rattle.link_receiver.proofs.Items.{one_passes, one_place}
use Rattle.link_receiver.proofs.carrier_in_hand.flow_of_carrier.Goals as goal

pub returns-clause-flow : goal.returns-clause-flow
returns-clause-flow c d =
    let one = (c.requires.good SharedOut 0 (omega arith)).one_flow c.args.c c.requires.carrier in
    let place = c.unwrap_or.ensures ∙ ap (λ o. unwrap_or o 0) c.first_listing.ensures in
    (one_passes (lists c.args.c) c.args.plan.now.flows d one) ∙ ap (λ k. Some (get_or c.args.plan.now.flows k d)) (sym place)

pub returns-clause-inside : goal.returns-clause-inside
returns-clause-inside c =
    let one = (c.requires.good SharedOut 0 (omega arith)).one_flow c.args.c c.requires.carrier in
    let place = c.unwrap_or.ensures ∙ ap (λ o. unwrap_or o 0) c.first_listing.ensures in
    subst (λ k. k < length c.args.plan.now.flows) (sym place) (one_place (lists c.args.c) c.args.plan.now.flows one)
