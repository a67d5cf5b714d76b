use Rattle.std.proofs.Common.{◌≡◌, ◌+◌, ◌≤◌, ◌++◌, ℕ, List, Option, IsTrue, None}
use Rattle.link_base.specs.Shelf.{SameFiles}
use Rattle.link_run_feed.specs.Feed.{in_lines}
use Rattle.link_run_feed.specs.FeedCalls.{GoesOn, form_with}
use Rattle.link_run_feed.proofs.feed_reader.read_lines.Given as goal

-- the lines so far are good, and their text was gathered
abbrev pub invariant-loop-number : goal.invariant-loop-number
invariant-loop-number g l =
    let shown = g.H.Shelf.shown in
    let taken = g.K.Sink.taken in
    let left = g.F.Feed.lines_left in record {
      fresh : l.reader.ended ≡ None;
      files : SameFiles (shown l.initial.shelf) (shown l.shelf);
      reads : (shown l.shelf).faults ≡ (shown l.initial.shelf).faults;
      writes : (taken l.out).faults ≡ (taken l.initial.out).faults;
      few : l.number + left l.feed ≤ 1 + left l.initial.feed;
      so_far : (header : List ℕ → Option (g.F.Feed.State × List ℕ)) (s0 : g.F.Feed.State) → g.F.Feed.stands l.initial.feed s0 → IsTrue (shown l.initial.shelf).tells
          → (s : g.F.Feed.State) × g.F.Feed.stands l.feed s × ((shown l.shelf).chosen ≡ (shown l.initial.shelf).chosen)
          × GoesOn (form_with header g.F.Feed.lines) (record { at = in_lines s0; number = 1; text = l.initial.text }) (l.initial.reader.rest ++ (shown l.initial.shelf).left) (taken l.initial.out)
          (in_lines s) l.number l.text (l.reader.rest ++ (shown l.shelf).left) (taken l.out);
    }

abbrev pub decreases-loop-number : goal.decreases-loop-number
decreases-loop-number g l = g.F.Feed.lines_left l.feed
