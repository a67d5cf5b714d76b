use Rattle.std.proofs.Common.{ℕ, ◌∙◌, List, length, ap, subst, arith}
use Rattle.carrier_plan.specs.declared.plan.Plan.{Plan}
use Rattle.link_receiver.specs.Output.{all_entries}
use Rattle.plan_checker.specs.Run.{ticks_of_run}
use Rattle.plan_checker.specs.WordSize.{word_size}
use Rattle.link_drill.specs.Arrivals.{arrivals_below}
use Rattle.link_drill.specs.DrillPlan.{drill_flow}
use Rattle.link_drill.specs.DrillStream.{drill_stream}
use Rattle.link_drill.specs.Summary.{entries_by}
use Rattle.link_drill.specs.Tally.{IsTally}
use Rattle.link_drill.proofs.SendSteps.{length-packets_of}
use Rattle.link_drill.proofs.SummarySteps.{made_is}
use Rattle.link_drill.proofs.summary.summarize.Goals as goal

pub send-requires-clause-plan : goal.send-requires-clause-plan
send-requires-clause-plan c = c.requires.plan

pub send-requires-clause-known : goal.send-requires-clause-known
send-requires-clause-known c = c.requires.known

pub send-requires-clause-drawn : goal.send-requires-clause-drawn
send-requires-clause-drawn c = c.requires.drawn

pub send-requires-clause-widths : goal.send-requires-clause-widths
send-requires-clause-widths c = c.requires.widths

pub play-requires-clause-plan : goal.play-requires-clause-plan
play-requires-clause-plan c = c.requires.plan

pub play-requires-clause-known : goal.play-requires-clause-known
play-requires-clause-known c = c.requires.known

pub play-requires-clause-drawn : goal.play-requires-clause-drawn
play-requires-clause-drawn c = c.requires.drawn

pub play-requires-clause-fates : goal.play-requires-clause-fates
play-requires-clause-fates c =
    let p : Plan = c.args.checked.now in
    let Y = word_size p.option in
    let many = ap (λ (xs : List (List _)). length xs) (c.deref.ensures.value ∙ c.in_ok-packets.ensures) ∙ length-packets_of p (drill_stream Y 256 c.args.drawn.now) (drill_flow Y) 65 in
    omega (arith, many, c.requires.fates)

pub returns : goal.returns
returns c =
    let p : Plan = c.args.checked.now in
    let Y = word_size p.option in
    let drawn = c.args.drawn.now in
    let fates = c.args.fates.now in
    let tally = c.in_ok-tally.tally in
    let packets = c.deref.ensures.value ∙ c.in_ok-packets.ensures in
    let counted : IsTally (drill_stream Y 256 drawn) (entries_by p Y drawn fates) tally =
    subst (λ (ps : List (List ℕ)). IsTally (drill_stream Y 256 drawn) (all_entries p 256 (arrivals_below ps fates (ticks_of_run p 256))) tally) packets c.in_ok-tally.ensures in
    made_is p.option Y drawn fates (entries_by p Y drawn fates) c.plan.result.now.option tally.samples tally.equal tally.marked c.count_lost.result c.count_repeated.result
    (ap (λ (q : Plan). q.option) c.plan.ensures.same) counted.samples counted.equal counted.marked c.count_lost.ensures c.count_repeated.ensures
