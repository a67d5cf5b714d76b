use Rattle.link_run_feed.specs.FeedCalls.{form_with}
use Rattle.link_run_feed.proofs.Courses.{feed_promises, select_promises}
use Rattle.link_run_feed.proofs.feed_reader.read_feed.Goals as goal

pub returns-in-Ok-clause-promises : goal.returns-in-Ok-clause-promises
returns-in-Ok-clause-promises g c =
    let read = c.read_selected.ensures in
    feed_promises (form_with (g.F.Feed.header c.args.given.now) g.F.Feed.lines) c.args.name.now (g.H.Shelf.shown c.args.shelf.now) (g.H.Shelf.shown c.select.new.self) (g.H.Shelf.shown c.read_selected.new.shelf)
    (g.K.Sink.taken c.args.out.now) (g.K.Sink.taken c.read_selected.new.out) c.read_selected.result
    c.in-Ok.ensures.files c.in-Ok.ensures.cause.by_result c.in-Ok.ensures.opens
    read.files read.reads read.writes read.nothing read.wants read.concludes

pub returns-in-Err-clause-promises : goal.returns-in-Err-clause-promises
returns-in-Err-clause-promises g c =
    select_promises (form_with (g.F.Feed.header c.args.given.now) g.F.Feed.lines) c.args.name.now (g.H.Shelf.shown c.args.shelf.now) (g.H.Shelf.shown c.select.new.self) (g.K.Sink.taken c.args.out.now)
    c.in-Err.ensures.files c.in-Err.ensures.cause.never_falls c.in-Err.ensures.cause.by_result c.in-Err.ensures.fails
