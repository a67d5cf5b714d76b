use Rattle.std.proofs.Common.{◌<◌, ◌≤◌, length, All}
use Rattle.carrier_plan.specs.declared.plan.Flow.{Flow}
use Rattle.plan_checker.proofs.Places.{at_item_of, within_of, few_at, few_pieces, known_at}
use Rattle.plan_checker.proofs.flow_rules.wrong_payload.Goals as goal

pub has_payload-requires-clause-known : goal.has_payload-requires-clause-known
has_payload-requires-clause-known c =
    let p = c.args.plan.now in
    let within : c.loop-i.i < length p.flows = within_of p.flows _ _ c.as_slice-flow-items.ensures c.loop-i-test.true in
    at_item_of (λ (f : Flow). All (λ c. c < length p.carriers) f.carriers) p.flows _ _ _ c.as_slice-flow-items.ensures c.flow-item.is (known_at p c.requires _ within)

pub has_payload-requires-clause-few : goal.has_payload-requires-clause-few
has_payload-requires-clause-few c =
    let p = c.args.plan.now in
    let within : c.loop-i.i < length p.flows = within_of p.flows _ _ c.as_slice-flow-items.ensures c.loop-i-test.true in
    at_item_of (λ (f : Flow). length f.carriers ≤ 64) p.flows _ _ _ c.as_slice-flow-items.ensures c.flow-item.is (few_at p c.requires _ within)

pub has_payload-requires-clause-pieces : goal.has_payload-requires-clause-pieces
has_payload-requires-clause-pieces c = few_pieces c.args.plan.now c.requires
