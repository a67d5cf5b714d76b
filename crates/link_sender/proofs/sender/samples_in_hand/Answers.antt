use Rattle.std.proofs.Common.{ℕ}
use Rattle.plan_checker.specs.Rules.Rule.{SampleRate, SampleWidth}
use Rattle.plan_checker.specs.SampleRate.{HasSampleRate, HasSampleWidth}
use Rattle.plan_checker.proofs.Places.{at_item_of, within_of}
use Rattle.link_sender.proofs.sender.samples_in_hand.Goals as goal

pub begin-requires-clause-rate : goal.begin-requires-clause-rate
begin-requires-clause-rate c =
    let p = c.plan.result.now in
    let i : ℕ = c.loop-carrier.carrier-index in
    let carriers = c.as_slice-carriers.result.now in
    at_item_of HasSampleRate p.carriers carriers i c.carrier-item.result c.as_slice-carriers.ensures c.carrier-item.is
    (c.plan.ensures.good SampleRate i (within_of p.carriers carriers i c.as_slice-carriers.ensures c.loop-carrier-test.true))

pub begin-requires-clause-width : goal.begin-requires-clause-width
begin-requires-clause-width c =
    let p = c.plan.result.now in
    let i : ℕ = c.loop-carrier.carrier-index in
    let carriers = c.as_slice-carriers.result.now in
    at_item_of HasSampleWidth p.carriers carriers i c.carrier-item.result c.as_slice-carriers.ensures c.carrier-item.is
    (c.plan.ensures.good SampleWidth i (within_of p.carriers carriers i c.as_slice-carriers.ensures c.loop-carrier-test.true))
