use Rattle.std.proofs.Common.{◌≡◌, ◌+◌, ◌-◌, take, arith}
use Rattle.plan_checker.specs.Run.{ticks_of_run}
use Rattle.link_base.specs.Record.{Record}
use Rattle.link_run_replay.specs.Replayed.{last_tick}
use Rattle.link_run_replay.proofs.Keeping.{taken_early, taken_late, last_same}
use Rattle.link_run_replay.proofs.capture_run.CaptureRun.take.Goals as goal
use Rattle.link_run_replay.proofs.capture_run.CaptureRun.take.Goals.{then-arrival-self, else-arrival-self}

pub returns-clause-stands : goal.returns-clause-stands
returns-clause-stands c = λ s played ordered few.
    let player = c.args.self.now.player in
    let session = player.session in
    let left = c.args.self.now.lines_left in
    let is : c.args.self.now.ticks ≡ ticks_of_run session.plan session.frames = c.args.self.now.of_run in
    let last : c.args.self.now.ticks ≡ last_tick s = last_same session player.management s c.args.arrival.tick c.args.self.now.ticks played is in
    let less : left - 1 + 1 ≡ left = omega (arith, c.requires.some) in
    let r : Record = record { tick = c.args.arrival.tick; octets = take c.args.arrival.length c.args.self.now.octets } in
    elim c.if-arrival-self.branch [
      | then-arrival-self w ↦
          let arrived = w.arrive.ensures in
          rw w.self-is
          (taken_early session w.arrive.new.self.session player.management w.arrive.new.self.management s r left (left - 1) played ordered (omega (arith, w.if-arrival-self.true, last))
          arrived.plan arrived.frames arrived.tick arrived.management arrived.stands less few)
      | else-arrival-self w ↦ rw w.self-is (taken_late session player.management s r left (left - 1) played (omega (arith, w.if-arrival-self.false, last)) less few)
    ]
