use Rattle.link_run_feed.proofs.Courses.{completes}
use Rattle.link_run.proofs.Running.{checks_words, lines_words, plays_words, sends_words}
use Rattle.link_run.proofs.run.run.Goals as goal

pub returns-clause-complete : goal.returns-clause-complete
returns-clause-complete g c =
    completes _ _ (g.H.Shelf.shown c.args.shelf.now) (g.H.Shelf.shown c.run_form.new.shelf) (g.K.Sink.taken c.args.out.now) (g.K.Sink.taken c.run_form.new.out) c.run_form.result
    (rw c.form_of.ensures at c.run_form.ensures.promises)

pub returns-clause-checks : goal.returns-clause-checks
returns-clause-checks g c =
    checks_words _ (g.H.Shelf.shown c.args.shelf.now) (g.H.Shelf.shown c.run_form.new.shelf) (g.K.Sink.taken c.args.out.now) (g.K.Sink.taken c.run_form.new.out) c.run_form.result
    (rw c.form_of.ensures at c.run_form.ensures.promises)

pub returns-clause-replays : goal.returns-clause-replays
returns-clause-replays g c =
    plays_words _ (g.H.Shelf.shown c.args.shelf.now) (g.H.Shelf.shown c.run_form.new.shelf) (g.K.Sink.taken c.args.out.now) (g.K.Sink.taken c.run_form.new.out) c.run_form.result
    (rw c.form_of.ensures at c.run_form.ensures.promises)
    c.samples_are_delayed.ensures c.management_arrives.ensures

pub returns-clause-sends : goal.returns-clause-sends
returns-clause-sends g c =
    sends_words _ (g.H.Shelf.shown c.args.shelf.now) (g.H.Shelf.shown c.run_form.new.shelf) (g.K.Sink.taken c.args.out.now) (g.K.Sink.taken c.run_form.new.out) c.run_form.result
    (rw c.form_of.ensures at c.run_form.ensures.promises)

pub returns-clause-lines : goal.returns-clause-lines
returns-clause-lines g c =
    lines_words _ (g.H.Shelf.shown c.args.shelf.now) (g.H.Shelf.shown c.run_form.new.shelf) (g.K.Sink.taken c.args.out.now) (g.K.Sink.taken c.run_form.new.out) c.run_form.result
    (rw c.form_of.ensures at c.run_form.ensures.promises)
