use Rattle.std.proofs.Common.{◌++◌, ◌∷◌, [], List, ap, ◌∙◌}
use Rattle.carrier_plan.specs.declared.plan.Flow.{Flow}
use Rattle.link_drill.proofs.PlanFacts.{plan_by_parts}
use Rattle.link_drill.proofs.run_plan.plan.Goals as goal

pub returns : goal.returns
returns c =
    plan_by_parts c.args.option c.octets_of_word-count.result c.in_ok-carriers.field-0 c.push.new.self c.in_ok-flow.field-0 c.octets_of_word-count.ensures.value
    c.in_ok-carriers.ensures c.in_ok-flow.ensures (c.in_ok-push.ensures.ok ∙ ap (λ (xs : List Flow). xs ++ c.in_ok-flow.field-0 ∷ []) c.new-flows.ensures)
