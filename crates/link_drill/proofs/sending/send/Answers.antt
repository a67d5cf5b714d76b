use Rattle.std.proofs.Common.{◌≡◌, ◌*◌, ◌∙◌, IfOk, sym, ap, subst}
use Rattle.carrier_plan.specs.declared.plan.Plan.{Plan}
use Rattle.plan_checker.specs.WordSize.{word_size}
use Rattle.link_drill.specs.DrillPlan.{drill_flow}
use Rattle.link_drill.specs.DrillStream.{drill_stream}
use Rattle.link_drill.specs.Sent.{packets_of}
use Rattle.link_drill.proofs.PlanFacts.{as_many_carriers}
use Rattle.link_drill.proofs.SendSteps.{plan_known, run_begun, sent_none}
use Rattle.link_drill.proofs.sending.send.Goals as goal

pub send_all-requires-clause-run : goal.send_all-requires-clause-run
send_all-requires-clause-run c =
    let is = c.in_ok-sender.ensures in
    run_begun c.in_ok-sender.sender c.args.checked.now is.plan c.requires.plan c.requires.known is.frames

pub send_all-requires-clause-tick : goal.send_all-requires-clause-tick
send_all-requires-clause-tick c = c.in_ok-sender.ensures.tick

pub send_all-requires-clause-words : goal.send_all-requires-clause-words
send_all-requires-clause-words c = c.word_octets.ensures ∙ ap (λ (p : Plan). word_size p.option) (sym c.in_ok-sender.ensures.plan)

pub send_all-requires-clause-drawn : goal.send_all-requires-clause-drawn
send_all-requires-clause-drawn c = c.requires.drawn ∙ ap (λ n. 4 * (256 * n)) (sym c.word_octets.ensures)

pub send_all-requires-clause-widths : goal.send_all-requires-clause-widths
send_all-requires-clause-widths c = c.requires.widths

pub send_all-requires-clause-before : goal.send_all-requires-clause-before
send_all-requires-clause-before c =
    let p : Plan = c.args.checked.now in
    let many = as_many_carriers p (word_size p.option) (plan_known p c.requires.plan c.requires.known) in
    sent_none c.in_ok-sender.sender p c.word_octets.result c.args.drawn.now (many ∙ sym c.word_octets.ensures) c.in_ok-sender.ensures.stands

pub returns : goal.returns
returns c =
    let p : Plan = c.args.checked.now in
    let drawn = c.args.drawn.now in
    let words = c.word_octets.result in
    let whole = subst (λ (q : Plan). IfOk c.send_all.result (λ packets. packets.items ≡ packets_of q (drill_stream words 256 drawn) (drill_flow words) 65)) c.in_ok-sender.ensures.plan c.send_all.ensures in
    subst (λ y. IfOk c.send_all.result (λ packets. packets.items ≡ packets_of p (drill_stream y 256 drawn) (drill_flow y) 65)) c.word_octets.ensures whole
