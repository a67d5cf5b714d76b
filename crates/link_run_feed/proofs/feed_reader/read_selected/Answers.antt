use Rattle.std.proofs.Common.{◌++◌, [], inl, ap, sym, subst, refl, IsTrue}
use Rattle.link_text.specs.Lines.{Reading, ending_of}
use Rattle.link_text.specs.declared.lines.Ending.TheVariants as stopped
use Rattle.link_text.proofs.Next.{gives_line, gives_none}
use Rattle.link_text.proofs.Gathering.{appends_none, gathers_none, gathers_put}
use Rattle.link_run_feed.specs.declared.reason.Reason.TheVariants as reason
use Rattle.link_run_feed.specs.declared.status.Status.TheVariants.{ReadFault}
use Rattle.link_run_feed.specs.Feed.{start, in_lines, is_bad, begun}
use Rattle.link_run_feed.specs.FeedCalls.{form_with, Concludes}
use Rattle.link_run_feed.proofs.FeedLines.{goes_on_line, concludes_then, concludes_long, concludes_unended, concludes_stopped, concludes_bad, step_header, step_no_header}
use Rattle.link_run_feed.proofs.feed_reader.read_selected.Goals as goal

pub returns-in-TooLong-clause-concludes : goal.returns-in-TooLong-clause-concludes
returns-in-TooLong-clause-concludes g c = λ told other.
    let form = form_with (g.F.Feed.header c.args.given.now) g.F.Feed.lines in
    let before = g.H.Shelf.shown c.args.shelf.now in
    let after = g.H.Shelf.shown c.next.new.shelf in
    let fresh = ap (λ (r : Reading). r.ended) c.in-Ok.ensures in
    let none = ap (λ (r : Reading). r.rest ++ before.left) c.in-Ok.ensures in
    subst (λ unread. Concludes form begun unread before after (g.K.Sink.taken c.args.out.now) (g.K.Sink.taken c.refuse.new.out) c.refuse.result) none
    (concludes_long form begun c.in-Ok.reader c.next.follows.lender-at-none before after c.next.result _ _ c.refuse.result
    fresh c.next.follows.holds-at-none (rw fresh at c.next.ensures.shows) told (c.next.ensures.chosen told) tt c.in-TooLong.is (rw c.new-text.ensures at c.refuse.ensures))

pub returns-in-End-clause-concludes : goal.returns-in-End-clause-concludes
returns-in-End-clause-concludes g c = λ told other.
    let form = form_with (g.F.Feed.header c.args.given.now) g.F.Feed.lines in
    let before = g.H.Shelf.shown c.args.shelf.now in
    let after = g.H.Shelf.shown c.next.new.shelf in
    let fresh = ap (λ (r : Reading). r.ended) c.in-Ok.ensures in
    let none = ap (λ (r : Reading). r.rest ++ before.left) c.in-Ok.ensures in
    subst (λ unread. Concludes form begun unread before after (g.K.Sink.taken c.args.out.now) (g.K.Sink.taken c.refuse-in-End.new.out) c.refuse-in-End.result) none
    (concludes_unended form begun c.in-Ok.reader c.next.follows.lender-at-none before after c.next.result _ _ c.refuse-in-End.result
    fresh c.next.follows.holds-at-none (rw fresh at c.next.ensures.shows) told (c.next.ensures.chosen told) tt c.in-End.is (rw c.new-text.ensures at c.refuse-in-End.ensures))

pub returns-in-Failed-clause-concludes : goal.returns-in-Failed-clause-concludes
returns-in-Failed-clause-concludes g c = λ told other.
    let form = form_with (g.F.Feed.header c.args.given.now) g.F.Feed.lines in
    let before = g.H.Shelf.shown c.args.shelf.now in
    let after = g.H.Shelf.shown c.next.new.shelf in
    let sink = g.K.Sink.taken c.args.out.now in
    let fresh = ap (λ (r : Reading). r.ended) c.in-Ok.ensures in
    let none = ap (λ (r : Reading). r.rest ++ before.left) c.in-Ok.ensures in
    let shows = rw fresh at c.in-Failed.ensures.shows in
    let failed = gives_none c.in-Ok.reader c.next.follows.lender-at-none before after c.next.result stopped.Failed fresh c.next.follows.holds-at-none (ap ending_of c.in-Failed.is) in
    subst (λ unread. Concludes form begun unread before after sink sink ReadFault) none
    (concludes_stopped form begun c.in-Ok.reader c.next.follows.lender-at-none before after sink sink ReadFault
    failed refl told (c.in-Failed.ensures.chosen told) (shows.failed told) (inl (record { status = refl; written = appends_none sink; count = refl })))

pub returns-in-Ok-Some-clause-concludes : goal.returns-in-Ok-Some-clause-concludes
returns-in-Ok-Some-clause-concludes g c = λ told other.
    let form = form_with (g.F.Feed.header c.args.given.now) g.F.Feed.lines in
    let before = g.H.Shelf.shown c.args.shelf.now in
    let mid = g.H.Shelf.shown c.next.new.shelf in
    let after = g.H.Shelf.shown c.read_opened.new.shelf in
    let sink = g.K.Sink.taken c.args.out.now in
    let fresh = ap (λ (r : Reading). r.ended) c.in-Ok.ensures in
    let none = ap (λ (r : Reading). r.rest ++ before.left) c.in-Ok.ensures in
    let line = gives_line c.in-Ok.reader c.next.follows.lender-at-none before mid c.next.result c.in-Text.line fresh c.next.follows.holds-at-none c.in-Text.is in
    let opened = (rw c.in-Ok-Some.field-0-is at c.in-Ok-Some.ensures).opens in
    let later = subst IsTrue (sym c.in-Text.ensures.files.tells) told in
    let concludes = rw c.new-text.ensures at c.read_opened.ensures.concludes (g.F.Feed.header c.args.given.now) opened.0 opened.1 opened.3 later in
    subst (λ unread. Concludes form begun unread before after sink (g.K.Sink.taken c.read_opened.new.out) c.read_opened.result) none
    (concludes_then form begun (in_lines opened.0) 1 opened.1 _ _ sink sink
    (goes_on_line form start (in_lines opened.0) 0 opened.1 [] opened.1 c.in-Text.line.now c.in-Ok.reader c.next.follows.lender-at-none before mid sink sink
    (step_header form 0 c.in-Text.line.now line.is_line.0 opened.0 opened.1 opened.2) line told (gathers_put opened.1 [] opened.1 sink refl))
    before mid after (g.K.Sink.taken c.read_opened.new.out) c.read_opened.result refl (c.in-Text.ensures.chosen told) concludes)

pub returns-in-Ok-None-clause-concludes : goal.returns-in-Ok-None-clause-concludes
returns-in-Ok-None-clause-concludes g c = λ told other.
    let form = form_with (g.F.Feed.header c.args.given.now) g.F.Feed.lines in
    let before = g.H.Shelf.shown c.args.shelf.now in
    let after = g.H.Shelf.shown c.next.new.shelf in
    let sink = g.K.Sink.taken c.args.out.now in
    let fresh = ap (λ (r : Reading). r.ended) c.in-Ok.ensures in
    let none = ap (λ (r : Reading). r.rest ++ before.left) c.in-Ok.ensures in
    let line = gives_line c.in-Ok.reader c.next.follows.lender-at-none before after c.next.result c.in-Text.line fresh c.next.follows.holds-at-none c.in-Text.is in
    let opened = (rw c.in-Ok-None.field-0-is at c.in-Ok-None.ensures).opens in
    let given = rw c.new-text.ensures at c.refuse-in-Ok-None.ensures in
    subst (λ unread. Concludes form begun unread before after sink (g.K.Sink.taken c.refuse-in-Ok-None.new.out) c.refuse-in-Ok-None.result) none
    (concludes_then form begun (is_bad reason.Header) 1 [] _ _ sink sink
    (goes_on_line form start (is_bad reason.Header) 0 [] [] [] c.in-Text.line.now c.in-Ok.reader c.next.follows.lender-at-none before after sink sink
    (step_no_header form 0 c.in-Text.line.now line.is_line.0 opened) line told (gathers_none [] sink))
    before after after (g.K.Sink.taken c.refuse-in-Ok-None.new.out) c.refuse-in-Ok-None.result refl (c.in-Text.ensures.chosen told)
    (concludes_bad form reason.Header 1 [] _ after after sink _ c.refuse-in-Ok-None.result given refl))
