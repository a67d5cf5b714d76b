use Rattle.std.proofs.Common.{◌<◌, ◌≤◌, length, arith, below_more}
use Rattle.carrier_plan.specs.declared.plan.Flow.{Flow}
use Rattle.plan_checker.specs.Rules.{Holds}
use Rattle.plan_checker.specs.Rules.Rule.{BufferRoom}
use Rattle.plan_checker.specs.Timing.{HasRoom}
use Rattle.plan_checker.proofs.Places.{at_item_of, item_holds, within_of, delays_at, frames_at}
use Rattle.plan_checker.proofs.flow_rules.wrong_room.Goals as goal

pub has_room-requires-clause-frames : goal.has_room-requires-clause-frames
has_room-requires-clause-frames c =
    let p = c.args.plan.now in
    let within : c.loop-i.i < length p.flows = within_of p.flows _ _ c.as_slice-flow-items.ensures c.loop-i-test.true in
    at_item_of (λ (f : Flow). 1 ≤ f.frames) p.flows _ _ _ c.as_slice-flow-items.ensures c.flow-item.is (frames_at p (λ r lt. c.requires r (omega arith)) _ within)

pub has_room-requires-clause-delays : goal.has_room-requires-clause-delays
has_room-requires-clause-delays c =
    let p = c.args.plan.now in
    let within : c.loop-i.i < length p.flows = within_of p.flows _ _ c.as_slice-flow-items.ensures c.loop-i-test.true in
    at_item_of (λ (f : Flow). f.lmin ≤ p.playout) p.flows _ _ _ c.as_slice-flow-items.ensures c.flow-item.is (delays_at p (λ r lt. c.requires r (omega arith)) _ within)

pub loop-i-preserved : goal.loop-i-preserved
loop-i-preserved c =
    let p = c.args.plan.now in
    below_more (Holds p BufferRoom) _ c.loop-i.invariant
    (item_holds (HasRoom p.playout) p.flows _ _ _ c.as_slice-flow-items.ensures c.loop-i-test.true c.flow-item.is (c.has_room.ensures.0 c.if-not-has_room.false))
