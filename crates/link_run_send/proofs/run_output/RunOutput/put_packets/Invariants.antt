use Rattle.std.proofs.Common.{◌≡◌, take}
use Rattle.std.specs.List.{flat_map}
use Rattle.link_sender.specs.Senders.{StandsFor}
use Rattle.link_sender.specs.Stream.{Stream}
use Rattle.link_text.specs.Gathered.{Gathers}
use Rattle.plan_checker.specs.Rules.{IsGood}
use Rattle.link_run_send.specs.SentText.{flow_text}
use Rattle.link_run_send.proofs.run_output.RunOutput.put_packets.Given as goal

-- the packets of the flows so far
abbrev pub invariant-loop-f : goal.invariant-loop-f
invariant-loop-f g l =
    let s = l.self.sender in record {
      text : (σ : Stream) → IsGood s.plan → StandsFor s σ
          → Gathers (flat_map (flow_text s.plan s.frames σ l.tick) (take l.f s.plan.flows)) l.initial.text (g.K.Sink.taken l.initial.out) l.text (g.K.Sink.taken l.out);
      writes : (g.K.Sink.taken l.out).faults ≡ (g.K.Sink.taken l.initial.out).faults;
    }
