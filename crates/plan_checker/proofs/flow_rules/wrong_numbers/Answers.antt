use Rattle.std.proofs.Common.{◌<◌, ◌≤◌, length, arith}
use Rattle.carrier_plan.specs.declared.plan.Flow.{Flow}
use Rattle.plan_checker.proofs.Places.{at_item_of, within_of, frames_at, window_at}
use Rattle.plan_checker.proofs.flow_rules.wrong_numbers.Goals as goal

pub has_sequence_numbers-requires-clause-frames : goal.has_sequence_numbers-requires-clause-frames
has_sequence_numbers-requires-clause-frames c =
    let p = c.args.plan.now in
    let within : c.loop-i.i < length p.flows = within_of p.flows _ _ c.as_slice-flow-items.ensures c.loop-i-test.true in
    at_item_of (λ (f : Flow). 1 ≤ f.frames) p.flows _ _ _ c.as_slice-flow-items.ensures c.flow-item.is (frames_at p (λ r lt. c.requires r (omega arith)) _ within)

pub has_sequence_numbers-requires-clause-window : goal.has_sequence_numbers-requires-clause-window
has_sequence_numbers-requires-clause-window c =
    let p = c.args.plan.now in
    let within : c.loop-i.i < length p.flows = within_of p.flows _ _ c.as_slice-flow-items.ensures c.loop-i-test.true in
    at_item_of (λ (f : Flow). f.lmin ≤ f.lmax) p.flows _ _ _ c.as_slice-flow-items.ensures c.flow-item.is (window_at p (λ r lt. c.requires r (omega arith)) _ within)
