use Rattle.std.proofs.Common.{◌≡◌, ◌≤◌, ◌-◌}
use Rattle.link_sender.specs.Stream.{Stream}
use Rattle.link_text.specs.Gathered.{Gathers}
use Rattle.link_run_send.specs.SendsRun.{KeepsSender, SendsRun}
use Rattle.link_run_send.specs.SentText.{text_between}
use Rattle.link_run_send.proofs.run_output.RunOutput.make_to.Given as goal

-- the ticks so far were made, and their text was gathered
abbrev pub invariant-loop-self : goal.invariant-loop-self
invariant-loop-self g l =
    let start = l.initial.self.sender in
    let what = l.initial.self.output in
    let taken = g.K.Sink.taken in record {
      same : KeepsSender start l.self.sender;
      output : l.self.output ≡ what;
      later : start.tick ≤ l.self.sender.tick;
      ahead : start.tick ≤ l.end → l.self.sender.tick ≤ l.end;
      stays : l.end ≤ start.tick → l.self.sender.tick ≡ start.tick;
      sends : (σ : Stream) → SendsRun start what l.initial.self.rd σ → SendsRun l.self.sender l.self.output l.self.rd σ;
      text : (σ : Stream) → SendsRun start what l.initial.self.rd σ
          → Gathers (text_between what start.plan start.frames σ start.tick l.self.sender.tick) l.initial.text (taken l.initial.out) l.text (taken l.out);
      writes : (taken l.out).faults ≡ (taken l.initial.out).faults;
    }

abbrev pub decreases-loop-self : goal.decreases-loop-self
decreases-loop-self g l = l.end - l.self.sender.tick
