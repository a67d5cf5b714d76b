use Rattle.std.proofs.Common.{inr}
use Rattle.carrier_plan.specs.PlanOf.{plan_of}
use Rattle.link_run_plan.proofs.Judging.{refuses_plan, refuses_text}
use Rattle.link_run_plan.proofs.judgement.judge.Goals as goal

pub returns-in-Err-clause-judged : goal.returns-in-Err-clause-judged
returns-in-Err-clause-judged g c =
    inr (refuses_plan (plan_of c.args.octets.now) c.in-Ok.plan c.in-Err.refused.rule c.in-Err.refused.item (g.K.Sink.taken c.args.out.now) (g.K.Sink.taken c.give_no.new.out)
    c.give_no.result c.in-Ok.ensures.plan c.in-Err.ensures.computed c.give_no.ensures)

pub returns-in-Err-Text-clause-judged : goal.returns-in-Err-Text-clause-judged
returns-in-Err-Text-clause-judged g c =
    let fault = rw c.in-Err-Text.field-0-is at c.in-Err-Text.ensures.fault in
    inr (refuses_text (plan_of c.args.octets.now) c.in-Err-Text.fault (g.K.Sink.taken c.args.out.now) (g.K.Sink.taken c.give_fault.new.out)
    c.give_fault.result fault c.give_fault.ensures)
