use Rattle.std.proofs.Common.{◌≡◌, ◌≤◌, ◌-◌, List}
use Rattle.control_words.specs.declared.announce.Announce.{Announce}
use Rattle.link_base.specs.Record.{Record}
use Rattle.link_text.specs.Gathered.{Gathers}
use Rattle.link_run_replay.specs.CaptureRun.{PlaysRun}
use Rattle.link_run_replay.specs.RunText.{text_between}
use Rattle.link_run_replay.proofs.player.Player.play_to.Given as goal

-- the ticks so far were played, and their text was gathered
abbrev pub invariant-loop-self : goal.invariant-loop-self
invariant-loop-self g l =
    let start = l.initial.self.session in
    let taken = g.K.Sink.taken in record {
      plan : l.self.session.plan ≡ start.plan;
      frames : l.self.session.frames ≡ start.frames;
      later : start.tick ≤ l.self.session.tick;
      ahead : start.tick ≤ l.end → l.self.session.tick ≤ l.end;
      stays : l.end ≤ start.tick → l.self.session.tick ≡ start.tick;
      plays : (a : Announce) (records : List Record) → PlaysRun start l.initial.self.management a records → PlaysRun l.self.session l.self.management a records;
      text : (a : Announce) (records : List Record) → PlaysRun start l.initial.self.management a records
          → Gathers (text_between start.plan start.frames a records start.tick l.self.session.tick) l.initial.text (taken l.initial.out) l.text (taken l.out);
      writes : (taken l.out).faults ≡ (taken l.initial.out).faults;
    }

abbrev pub decreases-loop-self : goal.decreases-loop-self
decreases-loop-self g l = l.end - l.self.session.tick
