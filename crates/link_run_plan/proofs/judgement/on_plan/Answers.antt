use Rattle.std.proofs.Common.{refl, sym, subst}
use Rattle.link_run_plan.specs.PlanFile.{IsPlanFile}
use Rattle.link_run_plan.proofs.Judging.{fails_at_plan, wants_at_plan, goes_on, ends}
use Rattle.link_run_plan.proofs.judgement.on_plan.Goals as goal

pub returns-in-Ok-clause-goes_on : goal.returns-in-Ok-clause-goes_on
returns-in-Ok-clause-goes_on g c =
    let read = c.in-Ok.ensures in
    let shown = g.H.Shelf.shown in
    goes_on c.args.name.now c.as_slice.result.now (shown c.args.shelf.now) (shown c.read_plan_file.new.shelf) (g.K.Sink.taken c.args.out.now) (g.K.Sink.taken c.judge.new.out)
    read.files (read.reads.stays (λ err. cc)) (λ told. read.chosen told (λ err. cc))
    (λ told. subst (IsPlanFile c.args.name.now (shown c.args.shelf.now).held) (sym c.as_slice.ensures.value) (read.octets told))
    c.judge.result c.judge.ensures.judged

pub returns-in-Ok-clause-ends : goal.returns-in-Ok-clause-ends
returns-in-Ok-clause-ends g c =
    let read = c.in-Ok.ensures in
    let shown = g.H.Shelf.shown in
    ends c.args.name.now c.as_slice.result.now (shown c.args.shelf.now) (shown c.read_plan_file.new.shelf) (g.K.Sink.taken c.args.out.now) (g.K.Sink.taken c.judge.new.out)
    read.files (read.reads.stays (λ err. cc)) (λ told. read.chosen told (λ err. cc))
    (λ told. subst (IsPlanFile c.args.name.now (shown c.args.shelf.now).held) (sym c.as_slice.ensures.value) (read.octets told))
    c.judge.result c.judge.ensures.judged

pub returns-in-Err-Fault-clause-ends : goal.returns-in-Err-Fault-clause-ends
returns-in-Err-Fault-clause-ends g c =
    let read = rw c.in-Err-Fault.field-0-is at c.in-Err-Fault.ensures in
    fails_at_plan c.args.name.now (g.H.Shelf.shown c.args.shelf.now) (g.H.Shelf.shown c.read_plan_file.new.shelf) (g.K.Sink.taken c.args.out.now)
    read.files read.reads.never_falls (read.reads.rose refl) (λ told. read.fault told refl)

pub returns-in-Err-Memory-clause-ends : goal.returns-in-Err-Memory-clause-ends
returns-in-Err-Memory-clause-ends g c =
    let read = rw c.in-Err-Memory.field-0-is at c.in-Err-Memory.ensures in
    wants_at_plan c.args.name.now (g.H.Shelf.shown c.args.shelf.now) (g.H.Shelf.shown c.read_plan_file.new.shelf) (g.K.Sink.taken c.args.out.now)
    read.files (read.reads.stays (λ err. cc)) (λ told. read.chosen told (λ err. cc))
