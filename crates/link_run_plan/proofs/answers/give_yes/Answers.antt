use Rattle.std.proofs.Common.{◌∙◌, ◌++◌, ap}
use Rattle.std.specs.Prelude.{codes}
use Rattle.link_run_plan.proofs.Yes.{cut_in_delays, cut_in_needs, all_given}
use Rattle.link_run_plan.proofs.answers.give_yes.Goals as goal

pub returns-in-Err : goal.returns-in-Err
returns-in-Err g c =
    let taken = g.K.Sink.taken in
    let fails = c.in-Err.ensures in
    cut_in_delays c.args.checked.now c.put.new.self (c.put.ensures ∙ ap (λ text. text ++ codes "yes\n") c.new-text.ensures) (taken c.args.out.now)
    (taken c.put_delays.new.out) fails.fails fails.cause.never_falls fails.cause.by_result

pub returns-in-Ok-put_needs : goal.returns-in-Ok-put_needs
returns-in-Ok-put_needs g c =
    let taken = g.K.Sink.taken in
    let first = c.in-Ok.ensures in
    let second = c.in-Ok-put_needs.ensures in
    all_given c.args.checked.now c.put.new.self (c.put.ensures ∙ ap (λ text. text ++ codes "yes\n") c.new-text.ensures) (taken c.args.out.now)
    c.put_delays.new.text (taken c.put_delays.new.out) first.puts first.cause.by_result
    c.put_needs.new.text (taken c.put_needs.new.out) (taken c.give.new.out) c.give.result second.puts second.cause.by_result c.give.ensures

pub returns-in-Err-put_needs : goal.returns-in-Err-put_needs
returns-in-Err-put_needs g c =
    let taken = g.K.Sink.taken in
    let first = c.in-Ok.ensures in
    let fails = c.in-Err-put_needs.ensures in
    cut_in_needs c.args.checked.now c.put.new.self (c.put.ensures ∙ ap (λ text. text ++ codes "yes\n") c.new-text.ensures) (taken c.args.out.now)
    c.put_delays.new.text (taken c.put_delays.new.out) first.puts first.cause.by_result
    (taken c.put_needs.new.out) fails.fails fails.cause.never_falls fails.cause.by_result
