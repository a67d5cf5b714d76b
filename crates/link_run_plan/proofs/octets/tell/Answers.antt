use Rattle.link_run_plan.proofs.FileAnswers.{yes_told, other_told}
use Rattle.link_run_plan.proofs.octets.tell.Goals as goal

pub returns-in-Ok : goal.returns-in-Ok
returns-in-Ok g c =
    let taken = g.K.Sink.taken in
    yes_told c.args.octets.now c.in-Ok.checked (taken c.args.out.now) (taken c.judge.new.out) (taken c.give_yes.new.out) c.give_yes.result
    c.in-Ok.ensures.judged c.give_yes.ensures

pub returns-in-Err : goal.returns-in-Err
returns-in-Err g c =
    let taken = g.K.Sink.taken in
    other_told c.args.octets.now (taken c.args.out.now) (taken c.judge.new.out) c.in-Err.status c.in-Err.ensures.judged
