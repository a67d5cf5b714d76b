use Rattle.std.proofs.Common.{◌≡◌, ◌-◌, ◌/◌, min}
use Rattle.link_drill.specs.DrillPlan.{drill_flow}
use Rattle.link_drill.specs.DrillStream.{drill_stream}
use Rattle.link_drill.specs.Sent.{HasSent, IsRun, packets_of}
use Rattle.link_drill.proofs.sending.send_all.Given as goal

-- the samples of the ticks so far were handed in, and the packets are those whose windows opened
abbrev pub invariant-loop : goal.invariant-loop
invariant-loop l =
    IsRun l.sender × (l.sender.plan ≡ l.initial.sender.plan) × (l.sender.tick ≡ l.counter) × HasSent l.sender l.words l.drawn (min l.counter 256) 0
    × (l.packets.items ≡ packets_of l.initial.sender.plan (drill_stream l.words 256 l.drawn) (drill_flow l.words) ((l.counter - 10) / 4))
