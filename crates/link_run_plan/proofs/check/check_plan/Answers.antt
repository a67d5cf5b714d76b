use Rattle.std.proofs.Common.{false}
use Rattle.link_run_feed.specs.declared.status.Status.TheVariants.{Done}
use Rattle.link_run_feed.specs.Course.{says}
use Rattle.link_run_plan.specs.Texts.{yes_text}
use Rattle.link_run_plan.proofs.Judging.{yes_given}
use Rattle.link_run_plan.proofs.check.check_plan.Goals as goal

pub returns-in-Ok-clause-promises : goal.returns-in-Ok-clause-promises
returns-in-Ok-clause-promises g c =
    let mid = g.H.Shelf.shown c.on_plan.new.shelf in
    c.in-Ok.ensures.goes_on.promises false (λ p held. says Done (yes_text p)) mid (g.K.Sink.taken c.give_yes.new.out) c.give_yes.result
    (yes_given (yes_text c.in-Ok.checked) mid (g.K.Sink.taken c.on_plan.new.out) (g.K.Sink.taken c.give_yes.new.out) c.give_yes.result c.give_yes.ensures)

pub returns-in-Err-clause-promises : goal.returns-in-Err-clause-promises
returns-in-Err-clause-promises g c = c.in-Err.ensures.ends false (λ p held. says Done (yes_text p))
