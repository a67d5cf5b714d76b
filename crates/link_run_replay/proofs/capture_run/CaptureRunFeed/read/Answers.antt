use Rattle.std.proofs.Common.{◌≡◌, ◌∙◌, ◌+◌, List, ℕ, length, take, ap, subst, sym}
use Rattle.plan_checker.specs.Run.{ticks_of_run}
use Rattle.link_run_replay.specs.declared.player.Player.{Player}
use Rattle.link_run_capture.specs.Capture.{most_records}
use Rattle.link_text.specs.Gathered.{Gathers, BreaksOff}
use Rattle.link_run_replay.specs.Replayed.{with_record, text_below}
use Rattle.link_run_replay.specs.CaptureRun.{KeepsRun}
use Rattle.link_run_replay.proofs.Keeping.{next_is, next_ordered, next_text, next_played}
use Rattle.link_run_replay.proofs.capture_run.CaptureRunFeed.read.Goals as goal

pub returns-in-Ok-play_to-clause-reads : goal.returns-in-Ok-play_to-clause-reads
returns-in-Ok-play_to-clause-reads g c = λ s replay.
    let taken = g.K.Sink.taken in
    let before = c.args.self.now in
    let now = c.next_record.new.self in
    let session = now.player.session in
    let management = now.player.management in
    let tick = c.in-Ok.arrival.tick in
    let octets = take c.in-Ok.arrival.length now.octets in
    let here : KeepsRun session management before.tick before.lines_left s =
    subst (λ (player : Player). KeepsRun player.session player.management before.tick before.lines_left s) (sym c.in-Ok.ensures.player) replay in
    let next = c.in-Ok.ensures.ok in
    let is : now.ticks ≡ ticks_of_run session.plan session.frames = now.of_run in
    let few : now.lines_left + length s.records ≡ most_records s.header.version = ap (λ left. left + length s.records) c.in-Ok.ensures.left ∙ here.left in
    let after = c.play_to.new.self in
    let played = c.in-Ok-play_to.ensures in (
      with_record s (record { tick = tick; octets = octets }),
      text_below s tick,
      next_is session management s before.tick before.lines_left here c.args.line.now octets tick next,
      c.take.ensures.stands s
          (next_played session management s before.tick before.lines_left here c.args.line.now octets tick next after.session after.management now.ticks c.min-end.result is c.min-end.ensures
          played.plan played.frames played.tick played.plays)
          (next_ordered session management s before.tick before.lines_left here c.args.line.now octets tick next) few,
      subst (λ (text : List ℕ). Gathers text c.args.text.now (taken c.args.out.now) c.play_to.new.text (taken c.play_to.new.out))
          (next_text session management s before.tick before.lines_left here c.args.line.now octets tick next now.ticks c.min-end.result is c.min-end.ensures)
          (played.puts s.header.announce here.played.early here.played.plays),
    )

pub returns-in-Err-play_to-clause-fails : goal.returns-in-Err-play_to-clause-fails
returns-in-Err-play_to-clause-fails g c = λ s replay.
    let taken = g.K.Sink.taken in
    let before = c.args.self.now in
    let now = c.next_record.new.self in
    let session = now.player.session in
    let management = now.player.management in
    let tick = c.in-Ok.arrival.tick in
    let octets = take c.in-Ok.arrival.length now.octets in
    let here : KeepsRun session management before.tick before.lines_left s =
    subst (λ (player : Player). KeepsRun player.session player.management before.tick before.lines_left s) (sym c.in-Ok.ensures.player) replay in
    let next = c.in-Ok.ensures.ok in
    let is : now.ticks ≡ ticks_of_run session.plan session.frames = now.of_run in (
      with_record s (record { tick = tick; octets = octets }),
      text_below s tick,
      next_is session management s before.tick before.lines_left here c.args.line.now octets tick next,
      subst (λ (text : List ℕ). BreaksOff text c.args.text.now (taken c.args.out.now) (taken c.play_to.new.out))
          (next_text session management s before.tick before.lines_left here c.args.line.now octets tick next now.ticks c.min-end.result is c.min-end.ensures)
          (c.in-Err-play_to.ensures.fails s.header.announce here.played.early here.played.plays),
    )
