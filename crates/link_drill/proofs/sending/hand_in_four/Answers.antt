use Rattle.std.proofs.Common.{◌<◌, ◌∙◌, sym, arith}
use Rattle.plan_checker.specs.WordSize.{word_size}
use Rattle.link_drill.specs.DrillPlan.{drill_carrier}
use Rattle.link_drill.proofs.PlanFacts.{as_many_carriers, carrier_read, samples_before-four, samples_due-four}
use Rattle.link_drill.proofs.SendSteps.{no_range_fault, run_plan}
use Rattle.link_drill.proofs.sending.hand_in_four.Goals as goal

pub hand_in-requires-clause-due : goal.hand_in-requires-clause-due
hand_in-requires-clause-due c =
    let s = c.args.sender.now in
    let Y = word_size s.plan.option in
    let is = run_plan s c.requires.run in
    let low : c.args.c < Y = omega (arith, c.requires.carrier, as_many_carriers s.plan Y is) in
    c.requires.four ∙ sym (samples_due-four s.plan Y is c.args.c s.tick low)

pub hand_in-requires-clause-once : goal.hand_in-requires-clause-once
hand_in-requires-clause-once c =
    let s = c.args.sender.now in
    let Y = word_size s.plan.option in
    let is = run_plan s c.requires.run in
    let low : c.args.c < Y = omega (arith, c.requires.carrier, as_many_carriers s.plan Y is) in
    c.requires.once ∙ sym (samples_before-four s.plan Y is c.args.c s.tick low)

pub unreachable-requires : goal.unreachable-requires
unreachable-requires c =
    let s = c.args.sender.now in
    let Y = word_size s.plan.option in
    let is = run_plan s c.requires.run in
    let low : c.args.c < Y = omega (arith, c.requires.carrier, as_many_carriers s.plan Y is) in
    no_range_fault 15 c.args.c _ c.args.samples.now c.in-Err.field-0 (c.in-Err.ensures.range (drill_carrier c.args.c) (carrier_read s.plan Y is c.args.c low)) c.requires.widths
