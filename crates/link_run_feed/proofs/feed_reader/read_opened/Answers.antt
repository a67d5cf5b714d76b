use Rattle.std.proofs.Common.{◌++◌, refl}
use Rattle.link_run_feed.specs.Feed.{in_lines}
use Rattle.link_run_feed.specs.FeedCalls.{form_with}
use Rattle.link_run_feed.proofs.FeedLines.{goes_on_gathered, concludes_then, concludes_cut}
use Rattle.link_run_feed.proofs.feed_reader.read_opened.Goals as goal

pub returns-in-Ok-clause-concludes : goal.returns-in-Ok-clause-concludes
returns-in-Ok-clause-concludes g c = λ header s settled opens told.
    let form = form_with header g.F.Feed.lines in
    let shelf = g.H.Shelf.shown c.args.shelf.now in
    let sink = g.K.Sink.taken c.args.out.now in
    let mid = g.K.Sink.taken c.begin.new.out in
    let begun = c.in-Ok.ensures.begins s settled opens in
    concludes_then form (record { at = in_lines s; number = 1; text = c.args.text.now ++ settled }) (in_lines s) 1 c.begin.new.text _ _ sink mid
    (goes_on_gathered form (in_lines s) 1 settled c.args.text.now c.begin.new.text _ sink mid begun.1)
    shelf shelf (g.H.Shelf.shown c.read_lines.new.shelf) (g.K.Sink.taken c.read_lines.new.out) c.read_lines.result c.in-Ok.ensures.cause.by_result refl
    (c.read_lines.ensures.concludes header s begun.0 told)

pub returns-in-Err-clause-concludes : goal.returns-in-Err-clause-concludes
returns-in-Err-clause-concludes g c = λ header s settled opens told.
    concludes_cut (form_with header g.F.Feed.lines) (record { at = in_lines s; number = 1; text = c.args.text.now ++ settled }) _ (g.H.Shelf.shown c.args.shelf.now) (g.H.Shelf.shown c.args.shelf.now)
    (g.K.Sink.taken c.args.out.now) (g.K.Sink.taken c.begin.new.out) (c.in-Err.ensures.fails s settled opens) refl c.in-Err.ensures.cause.never_falls c.in-Err.ensures.cause.by_result
