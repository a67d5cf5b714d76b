use Rattle.std.proofs.Common.{◌∙◌, ap, refl, sym, length, arith}
use Rattle.link_run_feed.proofs.Counting.{counted_ok, counted_err}
use Rattle.link_run_plan.proofs.FileReading.{cut_to, prefix_read}
use Rattle.link_run_plan.proofs.plan_file.read_selected.Goals as goal

pub returns-in-Ok-clause-reads : goal.returns-in-Ok-clause-reads
returns-in-Ok-clause-reads g c = counted_ok _ _ _ (λ err. cc) c.in-Ok.ensures.cause.by_result

pub returns-in-Ok-clause-octets : goal.returns-in-Ok-clause-octets
returns-in-Ok-clause-octets g c = λ told.
    let all = c.fill.auto.buf ∙ ap length c.as_mut_slice.ensures.value in
    let size = ap length c.as_mut_slice.ensures.value ∙ sym c.in_ok-octets.octets.ok.0 ∙ c.in_ok-octets.ensures.len in
    c.truncate.ensures.items ∙ cut_to c.in-Ok.count c.in_ok-octets.octets.len c.fill.new.buf c.in_ok-octets.octets.items all c.in_ok-octets.octets.ok.0
    ∙ prefix_read c.as_mut_slice.result.now c.fill.new.buf c.in-Ok.count (g.H.Shelf.shown c.args.shelf.now) (g.H.Shelf.shown c.fill.new.shelf) size (c.in-Ok.ensures.fills told)

pub returns-in-Ok-clause-chosen : goal.returns-in-Ok-clause-chosen
returns-in-Ok-clause-chosen g c = λ told. (c.in-Ok.ensures.fills told).prefix.chosen

pub returns-in-Err-clause-reads : goal.returns-in-Err-clause-reads
returns-in-Err-clause-reads g c = counted_err _ _ _ refl c.in-Err.ensures.cause.never_falls c.in-Err.ensures.cause.by_result

pub returns-in-Err-clause-chosen : goal.returns-in-Err-clause-chosen
returns-in-Err-clause-chosen g c = λ told. (c.in-Err.ensures.fails told).chosen

pub returns-in-Err-clause-fault : goal.returns-in-Err-clause-fault
returns-in-Err-clause-fault g c = λ told is.
    let size = ap length c.as_mut_slice.ensures.value ∙ sym c.in_ok-octets.octets.ok.0 ∙ c.in_ok-octets.ensures.len in
    let fails = c.in-Err.ensures.fails told in
    record { taken = omega (arith, size, fails.taken); chosen = fails.chosen; failed = fails.failed }
