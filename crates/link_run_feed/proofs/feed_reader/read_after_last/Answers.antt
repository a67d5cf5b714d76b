use Rattle.std.proofs.Common.{refl, ap}
use Rattle.link_text.specs.declared.lines.Ending.TheVariants as stopped
use Rattle.link_text.specs.Lines.{ending_of}
use Rattle.link_text.proofs.Next.{gives_none}
use Rattle.link_run_feed.specs.Feed.{ended}
use Rattle.link_run_feed.specs.FeedCalls.{form_with}
use Rattle.link_run_feed.proofs.FeedLines.{concludes_done, concludes_after, concludes_stopped}
use Rattle.link_run_feed.proofs.feed_reader.read_after_last.Goals as goal

pub returns-in-End-clause-concludes : goal.returns-in-End-clause-concludes
returns-in-End-clause-concludes g c = λ header s over told.
    concludes_done (form_with header g.F.Feed.lines) s c.args.number c.args.text.now c.args.reader.now c.next.follows.lender-at-none (g.H.Shelf.shown c.args.shelf.now) (g.H.Shelf.shown c.next.new.shelf) c.next.result _ _ c.conclude.result
    c.requires.fresh c.next.follows.holds-at-none (rw c.requires.fresh at c.next.ensures.shows) told (c.next.ensures.chosen told) c.in-End.is (c.conclude.ensures.given s over)

pub returns-in-Failed-clause-concludes : goal.returns-in-Failed-clause-concludes
returns-in-Failed-clause-concludes g c = λ header s over told.
    let before = g.H.Shelf.shown c.args.shelf.now in
    let after = g.H.Shelf.shown c.next.new.shelf in
    let none = gives_none c.args.reader.now c.next.follows.lender-at-none before after c.next.result stopped.Failed c.requires.fresh c.next.follows.holds-at-none (ap ending_of c.in-Failed.is) in
    let shows = rw c.requires.fresh at c.in-Failed.ensures.shows in
    concludes_stopped (form_with header g.F.Feed.lines) (record { at = ended s; number = c.args.number; text = c.args.text.now }) c.args.reader.now c.next.follows.lender-at-none before after _ _ c.give_text.result
    none refl told (c.in-Failed.ensures.chosen told) (shows.failed told) c.give_text.ensures

pub returns-in_default-clause-concludes : goal.returns-in_default-clause-concludes
returns-in_default-clause-concludes g c = λ header s over told.
    concludes_after (form_with header g.F.Feed.lines) s c.args.number c.args.text.now c.args.reader.now c.next.follows.lender-at-none (g.H.Shelf.shown c.args.shelf.now) (g.H.Shelf.shown c.next.new.shelf) c.next.result _ _ c.refuse.result
    c.requires.fresh c.next.follows.holds-at-none (rw c.requires.fresh at c.next.ensures.shows) told (c.next.ensures.chosen told) c.in_default.not-End c.in_default.not-Failed c.refuse.ensures
