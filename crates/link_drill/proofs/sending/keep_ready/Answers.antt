use Rattle.std.proofs.Common.{ℕ}
use Rattle.plan_checker.specs.WordSize.{word_size}
use Rattle.link_drill.specs.DrillPlan.{drill_flow}
use Rattle.link_drill.proofs.PlanFacts.{flow_read, one_flow}
use Rattle.link_drill.proofs.SendSteps.{kept_more, kept_none, run_plan, run_words}
use Rattle.link_drill.proofs.sending.keep_ready.Goals as goal

pub ready-requires : goal.ready-requires
ready-requires c =
    let s = c.args.sender.now in
    one_flow s.plan (word_size s.plan.option) (run_plan s c.requires.run)

pub returns-in_ok-push : goal.returns-in_ok-push
returns-in_ok-push c =
    let s = c.args.sender.now in
    let Y : ℕ = c.args.words in
    let is = run_words s Y c.requires.run c.requires.words in
    let found = c.in-Some.ensures.packet (drill_flow Y) (flow_read s.plan Y is) in
    kept_more s.plan Y is s c.args.drawn.now c.requires.sent c.requires.run.frames c.packets_are_settled.ensures c.packets_are_determined.ensures found.0 c.in-Some.octets.now found.1
    (found.2 c.requires.sent.stream c.requires.sent.stands) c.args.packets.now.items c.push.new.self.items c.in_ok-copied.field-0 c.requires.before c.in_ok-push.ensures.items
    c.in_ok-copied.ensures

pub returns-in_default : goal.returns-in_default
returns-in_default c =
    let s = c.args.sender.now in
    let Y : ℕ = c.args.words in
    let is = run_words s Y c.requires.run c.requires.words in
    kept_none s.plan Y is s c.args.drawn.now c.requires.sent c.requires.run.frames c.requires.tick (c.in_default.ensures.packet (drill_flow Y) (flow_read s.plan Y is))
    c.args.packets.now.items c.requires.before
