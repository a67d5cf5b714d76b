use Rattle.std.proofs.Common.{◌+◌, ◌∙◌, arith, refl, sym, subst, IsTrue}
use Rattle.link_run_feed.specs.Feed.{Read, in_lines}
use Rattle.link_run_feed.specs.FeedCalls.{form_with}
use Rattle.link_run_feed.proofs.Counting.{files_stay}
use Rattle.link_run_feed.proofs.FeedLines.{goes_on_none, goes_on_then, concludes_then}
use Rattle.link_run_feed.proofs.feed_reader.read_lines.Goals as goal

pub loop-number-init : goal.loop-number-init
loop-number-init g c = record {
  fresh = c.requires.fresh;
  files = record { tells = refl; held = λ told. refl };
  reads = refl;
  writes = refl;
  few = omega arith;
  so_far = λ header s stands told. (s, stands, refl, goes_on_none (form_with header g.F.Feed.lines) (in_lines s) 1 c.args.text.now _ (g.K.Sink.taken c.args.out.now));
}

pub loop-number-preserved : goal.loop-number-preserved
loop-number-preserved g c =
    let shown = g.H.Shelf.shown in
    let taken = g.K.Sink.taken in
    let before = c.loop-number.invariant in
    let ahead = c.read_ahead-number.ensures in
    let line = c.in-None.ensures in record {
      fresh = line.still_fresh;
      files = files_stay (shown c.args.shelf.now) (shown c.loop-number.shelf) (shown c.read_line.new.shelf) before.files line.files;
      reads = line.reads ∙ before.reads;
      writes = line.writes ∙ before.writes;
      few = omega (arith, before.few, ahead.fewer, line.fewer);
      so_far = λ header s0 stands told.
          let form = form_with header g.F.Feed.lines in
          let start : Read g.F.Feed.State = record { at = in_lines s0; number = 1; text = c.args.text.now } in
          let so_far = before.so_far header s0 stands told in
          let number = c.loop-number.number in
          let many = number + c.read_ahead-number.result in
          let text = c.loop-number.text in
          let sink = taken c.loop-number.out in
          let passed = ahead.goes_on header so_far.0 number text (shown c.loop-number.shelf).left sink so_far.1 in
          let next = line.goes_on header passed.0 passed.1 (subst IsTrue (sym before.files.tells) told) in (
            next.0,
            next.1,
            next.2 ∙ so_far.2,
            goes_on_then form start (in_lines passed.0) (in_lines next.0) many (many + 1) text c.read_line.new.text _ _ _ (taken c.args.out.now) sink (taken c.read_line.new.out)
                (goes_on_then form start (in_lines so_far.0) (in_lines passed.0) number many text text _ _ _ (taken c.args.out.now) sink sink so_far.3 passed.2) next.3,
          );
    }

pub returns-in-Some-clause-concludes : goal.returns-in-Some-clause-concludes
returns-in-Some-clause-concludes g c = λ header s0 stands told.
    let shown = g.H.Shelf.shown in
    let taken = g.K.Sink.taken in
    let form = form_with header g.F.Feed.lines in
    let start : Read g.F.Feed.State = record { at = in_lines s0; number = 1; text = c.args.text.now } in
    let before = c.loop-number.invariant in
    let so_far = before.so_far header s0 stands told in
    let number = c.loop-number.number in
    let many = number + c.read_ahead-number.result in
    let text = c.loop-number.text in
    let sink = taken c.loop-number.out in
    let passed = c.read_ahead-number.ensures.goes_on header so_far.0 number text (shown c.loop-number.shelf).left sink so_far.1 in
    concludes_then form start (in_lines passed.0) many text _ _ (taken c.args.out.now) sink
    (goes_on_then form start (in_lines so_far.0) (in_lines passed.0) number many text text _ _ _ (taken c.args.out.now) sink sink so_far.3 passed.2)
    (shown c.args.shelf.now) (shown c.loop-number.shelf) (shown c.read_line.new.shelf) (taken c.read_line.new.out) c.in-Some.status before.writes so_far.2
    (c.in-Some.ensures.concludes header passed.0 passed.1 (subst IsTrue (sym before.files.tells) told))
