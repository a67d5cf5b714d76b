use Rattle.std.proofs.Common.{◌≡◌, ◌∙◌, refl, sym, subst, take, IsTrue}
use Rattle.std.proofs.lemmas.Result.{IfOk-weaker}
use Rattle.link_run_plan.specs.PlanFile.{plan_limit, IsPlanFile}
use Rattle.link_run_feed.proofs.Counting.{counted_then, counted_err}
use Rattle.link_run_plan.proofs.FileReading.{plan_file_read, read_fails, select_fails}
use Rattle.link_run_plan.proofs.plan_file.read_plan_file.Goals as goal

pub returns-in-Ok-clause-reads : goal.returns-in-Ok-clause-reads
returns-in-Ok-clause-reads g c = counted_then _ _ _ _ c.in-Ok.ensures.cause.by_result c.read_selected.ensures.reads

pub returns-in-Ok-clause-octets : goal.returns-in-Ok-clause-octets
returns-in-Ok-clause-octets g c = λ told.
    let still = subst IsTrue (sym c.in-Ok.ensures.files.tells) told in
    IfOk-weaker c.read_selected.result
    (λ octets. octets.items ≡ take plan_limit (g.H.Shelf.shown c.select.new.self).left)
    (λ octets. IsPlanFile c.args.name.now (g.H.Shelf.shown c.args.shelf.now).held octets.items)
    (λ octets prefix. plan_file_read c.args.name.now octets.items (g.H.Shelf.shown c.args.shelf.now) (g.H.Shelf.shown c.select.new.self) (c.in-Ok.ensures.opens told) prefix)
    (c.read_selected.ensures.octets still)

pub returns-in-Ok-clause-chosen : goal.returns-in-Ok-clause-chosen
returns-in-Ok-clause-chosen g c = λ told other.
    c.read_selected.ensures.chosen (subst IsTrue (sym c.in-Ok.ensures.files.tells) told) ∙ (c.in-Ok.ensures.opens told).chosen

pub returns-in-Ok-clause-fault : goal.returns-in-Ok-clause-fault
returns-in-Ok-clause-fault g c = λ told is.
    read_fails c.args.name.now (g.H.Shelf.shown c.args.shelf.now) (g.H.Shelf.shown c.select.new.self) (g.H.Shelf.shown c.read_selected.new.shelf) (c.in-Ok.ensures.opens told)
    (c.read_selected.ensures.fault (subst IsTrue (sym c.in-Ok.ensures.files.tells) told) is)

pub returns-in-Err-clause-reads : goal.returns-in-Err-clause-reads
returns-in-Err-clause-reads g c = counted_err _ _ _ refl c.in-Err.ensures.cause.never_falls c.in-Err.ensures.cause.by_result

pub returns-in-Err-clause-chosen : goal.returns-in-Err-clause-chosen
returns-in-Err-clause-chosen g c = λ told other. absurd (other refl)

pub returns-in-Err-clause-fault : goal.returns-in-Err-clause-fault
returns-in-Err-clause-fault g c = λ told is.
    select_fails c.args.name.now (g.H.Shelf.shown c.args.shelf.now) (g.H.Shelf.shown c.select.new.self) (c.in-Err.ensures.fails told)
