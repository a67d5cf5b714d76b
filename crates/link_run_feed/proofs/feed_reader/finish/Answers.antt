use Rattle.std.proofs.Common.{◌++◌, ◌∙◌, refl, sym}
use Rattle.link_run_feed.specs.Feed.{ended}
use Rattle.link_run_feed.specs.FeedCalls.{form_with}
use Rattle.link_run_feed.proofs.FeedLines.{concludes_early, concludes_end, concludes_gathered, concludes_cut}
use Rattle.link_run_feed.proofs.feed_reader.finish.Goals as goal

pub returns-then-not-may_end-clause-concludes : goal.returns-then-not-may_end-clause-concludes
returns-then-not-may_end-clause-concludes g c = λ header s stands told.
    concludes_early (form_with header g.F.Feed.lines) s c.args.number c.args.text.now _ _ _ _ _ c.refuse.result
    (sym (c.may_end.ensures s stands) ∙ c.if-not-may_end.true)
    c.refuse.ensures refl

pub returns-in-Ok-clause-concludes : goal.returns-in-Ok-clause-concludes
returns-in-Ok-clause-concludes g c = λ header s stands told.
    let may = sym (c.may_end.ensures s stands) ∙ c.if-not-may_end.false in
    let over = c.in-Ok.ensures.ends s stands may in
    concludes_gathered (form_with header g.F.Feed.lines) s c.args.number c.args.text.now _ _ _ (g.K.Sink.taken c.args.out.now) _ c.read_after_last.result c.end.new.text (g.K.Sink.taken c.end.new.out) may
    over.1 c.in-Ok.ensures.cause.by_result (c.read_after_last.ensures.concludes header (g.F.Feed.lines.ending s).0 over.0 told)

pub returns-in-Err-clause-concludes : goal.returns-in-Err-clause-concludes
returns-in-Err-clause-concludes g c = λ header s stands told.
    let form = form_with header g.F.Feed.lines in
    let given = g.F.Feed.lines.ending s in
    let may = sym (c.may_end.ensures s stands) ∙ c.if-not-may_end.false in
    concludes_end form s c.args.number c.args.text.now _ _ _ _ _ _ may
    (concludes_cut form (record { at = ended given.0; number = c.args.number; text = c.args.text.now ++ given.1 }) _ (g.H.Shelf.shown c.args.shelf.now) (g.H.Shelf.shown c.args.shelf.now)
    (g.K.Sink.taken c.args.out.now) (g.K.Sink.taken c.end.new.out) (c.in-Err.ensures.fails s stands may) refl c.in-Err.ensures.cause.never_falls c.in-Err.ensures.cause.by_result)
