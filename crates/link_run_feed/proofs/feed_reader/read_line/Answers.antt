use Rattle.std.proofs.Common.{◌+◌, ◌++◌, refl, sym, ap, subst, IsTrue, []}
use Rattle.link_text.specs.declared.lines.Ending.TheVariants as stopped
use Rattle.link_text.specs.Lines.{ending_of}
use Rattle.link_text.proofs.Next.{gives_none, gives_line}
use Rattle.link_text.proofs.Gathering.{gathers_none, gathers_put}
use Rattle.link_run_feed.specs.Feed.{in_lines, is_bad, by_end}
use Rattle.link_run_feed.specs.FeedCalls.{form_with}
use Rattle.link_run_feed.proofs.FeedLines.{goes_on_line, concludes_then, concludes_long, concludes_unended, concludes_stopped, concludes_bad, concludes_broken, step_good, step_bad, step_end}
use Rattle.link_run_feed.proofs.feed_reader.read_line.Goals as goal

pub returns-in-TooLong-clause-concludes : goal.returns-in-TooLong-clause-concludes
returns-in-TooLong-clause-concludes g c = λ header s stands told.
    concludes_long (form_with header g.F.Feed.lines) (record { at = in_lines s; number = c.args.number; text = c.args.text.now }) c.args.reader.now c.next.follows.lender-at-none
    (g.H.Shelf.shown c.args.shelf.now) (g.H.Shelf.shown c.next.new.shelf) c.next.result _ _ c.refuse.result
    c.requires.fresh c.next.follows.holds-at-none (rw c.requires.fresh at c.next.ensures.shows) told (c.next.ensures.chosen told) tt c.in-TooLong.is c.refuse.ensures

pub returns-in-End-clause-concludes : goal.returns-in-End-clause-concludes
returns-in-End-clause-concludes g c = λ header s stands told.
    concludes_unended (form_with header g.F.Feed.lines) (record { at = in_lines s; number = c.args.number; text = c.args.text.now }) c.args.reader.now c.next.follows.lender-at-none
    (g.H.Shelf.shown c.args.shelf.now) (g.H.Shelf.shown c.next.new.shelf) c.next.result _ _ c.refuse-in-End.result
    c.requires.fresh c.next.follows.holds-at-none (rw c.requires.fresh at c.next.ensures.shows) told (c.next.ensures.chosen told) tt c.in-End.is c.refuse-in-End.ensures

pub returns-in-Failed-clause-concludes : goal.returns-in-Failed-clause-concludes
returns-in-Failed-clause-concludes g c = λ header s stands told.
    let before = g.H.Shelf.shown c.args.shelf.now in
    let after = g.H.Shelf.shown c.next.new.shelf in
    let none = gives_none c.args.reader.now c.next.follows.lender-at-none before after c.next.result stopped.Failed c.requires.fresh c.next.follows.holds-at-none (ap ending_of c.in-Failed.is) in
    let shows = rw c.requires.fresh at c.in-Failed.ensures.shows in
    concludes_stopped (form_with header g.F.Feed.lines) (record { at = in_lines s; number = c.args.number; text = c.args.text.now }) c.args.reader.now c.next.follows.lender-at-none before after _ _ c.give_text.result
    none refl told (c.in-Failed.ensures.chosen told) (shows.failed told) c.give_text.ensures

pub returns-then-eq-clause-concludes : goal.returns-then-eq-clause-concludes
returns-then-eq-clause-concludes g c = λ header s stands told.
    let form = form_with header g.F.Feed.lines in
    let before = g.H.Shelf.shown c.args.shelf.now in
    let mid = g.H.Shelf.shown c.next.new.shelf in
    let sink = g.K.Sink.taken c.args.out.now in
    let hand = c.args.text.now in
    let line = gives_line c.args.reader.now c.next.follows.lender-at-none before mid c.next.result c.in-Text.line c.requires.fresh c.next.follows.holds-at-none c.in-Text.is in
    let is = sym (rw c.as_slice.ensures at c.if-eq.ensures) in
    let later = subst IsTrue (sym c.in-Text.ensures.files.tells) told in
    let step = by_end (g.F.Feed.lines.may_end s) (g.F.Feed.lines.ending s) in
    concludes_then form (record { at = in_lines s; number = c.args.number; text = hand }) step.at (c.args.number + 1) (hand ++ step.settled) _ _ sink sink
    (goes_on_line form (in_lines s) step.at c.args.number step.settled hand (hand ++ step.settled) c.in-Text.line.now c.args.reader.now c.next.follows.lender-at-none before mid sink sink
    (step_end form c.args.number c.in-Text.line.now line.is_line.0 s is) line told (gathers_put step.settled hand (hand ++ step.settled) sink refl))
    before mid (g.H.Shelf.shown c.finish.new.shelf) (g.K.Sink.taken c.finish.new.out) c.finish.result refl (c.in-Text.ensures.chosen told)
    (c.finish.ensures.concludes header s stands later)

pub returns-in-Ok-Good-clause-goes_on : goal.returns-in-Ok-Good-clause-goes_on
returns-in-Ok-Good-clause-goes_on g c = λ header s stands told.
    let form = form_with header g.F.Feed.lines in
    let before = g.H.Shelf.shown c.args.shelf.now in
    let after = g.H.Shelf.shown c.next.new.shelf in
    let line = gives_line c.args.reader.now c.next.follows.lender-at-none before after c.next.result c.in-Text.line c.requires.fresh c.next.follows.holds-at-none c.in-Text.is in
    let other = sym (rw c.as_slice.ensures at c.if-eq.ensures) in
    let read = (rw c.in-Ok-Good.field-0-is at c.in-Ok-Good.ensures).reads s stands in (
      read.0,
      read.3,
      c.in-Text.ensures.chosen told,
      goes_on_line form (in_lines s) (in_lines read.0) c.args.number read.1 c.args.text.now c.read.new.text c.in-Text.line.now c.args.reader.now c.next.follows.lender-at-none before after
          (g.K.Sink.taken c.args.out.now) (g.K.Sink.taken c.read.new.out) (step_good form c.args.number c.in-Text.line.now line.is_line.0 s read.0 read.1 other read.2) line told read.4,
    )

pub returns-in-Ok-Bad-clause-concludes : goal.returns-in-Ok-Bad-clause-concludes
returns-in-Ok-Bad-clause-concludes g c = λ header s stands told.
    let form = form_with header g.F.Feed.lines in
    let before = g.H.Shelf.shown c.args.shelf.now in
    let after = g.H.Shelf.shown c.next.new.shelf in
    let sink = g.K.Sink.taken c.args.out.now in
    let hand = c.args.text.now in
    let line = gives_line c.args.reader.now c.next.follows.lender-at-none before after c.next.result c.in-Text.line c.requires.fresh c.next.follows.holds-at-none c.in-Text.is in
    let other = sym (rw c.as_slice.ensures at c.if-eq.ensures) in
    let read = (rw c.in-Ok-Bad.field-0-is at c.in-Ok-Bad.ensures).reads s stands in
    let given = rw (read.1, read.2) at c.refuse-in-Ok-Bad.ensures in
    concludes_then form (record { at = in_lines s; number = c.args.number; text = hand }) (is_bad c.in-Ok-Bad.reason) (c.args.number + 1) hand _ _ sink sink
    (goes_on_line form (in_lines s) (is_bad c.in-Ok-Bad.reason) c.args.number [] hand hand c.in-Text.line.now c.args.reader.now c.next.follows.lender-at-none before after sink sink
    (step_bad form c.args.number c.in-Text.line.now line.is_line.0 s c.in-Ok-Bad.reason other read.0) line told (gathers_none hand sink))
    before after after (g.K.Sink.taken c.refuse-in-Ok-Bad.new.out) c.refuse-in-Ok-Bad.result refl (c.in-Text.ensures.chosen told)
    (concludes_bad form c.in-Ok-Bad.reason (c.args.number + 1) hand _ after after sink _ c.refuse-in-Ok-Bad.result given refl)

pub returns-in-Err-clause-concludes : goal.returns-in-Err-clause-concludes
returns-in-Err-clause-concludes g c = λ header s stands told.
    let form = form_with header g.F.Feed.lines in
    let before = g.H.Shelf.shown c.args.shelf.now in
    let after = g.H.Shelf.shown c.next.new.shelf in
    let line = gives_line c.args.reader.now c.next.follows.lender-at-none before after c.next.result c.in-Text.line c.requires.fresh c.next.follows.holds-at-none c.in-Text.is in
    let other = sym (rw c.as_slice.ensures at c.if-eq.ensures) in
    let broken = c.in-Err.ensures.fails s stands in
    concludes_broken form (in_lines s) (in_lines broken.0) c.args.number broken.1 c.args.text.now c.in-Text.line.now c.args.reader.now c.next.follows.lender-at-none before after
    (g.K.Sink.taken c.args.out.now) (g.K.Sink.taken c.read.new.out) (step_good form c.args.number c.in-Text.line.now line.is_line.0 s broken.0 broken.1 other broken.2) line told (c.in-Text.ensures.chosen told)
    broken.3 c.in-Err.ensures.cause.never_falls c.in-Err.ensures.cause.by_result
