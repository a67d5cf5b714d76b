use Rattle.std.proofs.Common.{◌≡◌, ◌≤◌, ◌-◌, take}
use Rattle.hdlc_channel.specs.Bits.{octet_bits}
use Rattle.hdlc_channel.specs.Reader.{StandsFor}
use Rattle.link_run_management.specs.Events.{slow_line}
use Rattle.link_run_management.specs.HandsIn.{HandsIn}
use Rattle.link_run_management.proofs.channel.SlowReaderChannel.take.Given as goal

abbrev pub decreases-loop-from : goal.decreases-loop-from
decreases-loop-from g l = 8 - l.from

abbrev pub invariant-loop-from : goal.invariant-loop-from
invariant-loop-from g l =
    let taken = g.K.Sink.taken in record {
      few : l.from ≤ 8;
      count : (taken l.out).faults ≡ (taken l.initial.out).faults;
      hands : HandsIn StandsFor slow_line l.number (take l.from (octet_bits l.octet)) l.initial.self l.self l.initial.text (taken l.initial.out) l.text (taken l.out);
    }
