use Rattle.std.proofs.Common.{◌≡◌, take}
use Rattle.hdlc_channel.specs.Bits.{bits_of}
use Rattle.link_run_management.specs.HandsIn.{HandsIn}
use Rattle.link_run_management.proofs.channel.push_octets.Given as goal

abbrev pub invariant-loop-octet : goal.invariant-loop-octet
invariant-loop-octet g l =
    let taken = g.K.Sink.taken in record {
      count : (taken l.out).faults ≡ (taken l.initial.out).faults;
      hands : HandsIn g.C.Channel.stands g.C.Channel.line l.number (bits_of (take l.octet-index l.octets)) l.initial.channel l.channel l.initial.text (taken l.initial.out) l.text (taken l.out);
    }
