use Rattle.std.proofs.Common.{Bool, List, ◌+◌, take, drop, get_or, subst, refl, ◌∙◌}
use Rattle.hdlc_channel.specs.Bits.{bits_of, octet_bits}
use Rattle.link_run_management.specs.HandsIn.{HandsIn, BreaksAmong}
use Rattle.link_run_management.proofs.Handing.{hands_none, hands_then, breaks_behind, more_octets, all_octets}
use Rattle.link_run_management.proofs.channel.push_octets.Goals as goal

pub loop-octet-init : goal.loop-octet-init
loop-octet-init g c = record {
  count = refl;
  hands = hands_none g.C.Channel.stands g.C.Channel.line c.args.number c.args.channel.now c.args.text.now (g.K.Sink.taken c.args.out.now);
}

pub loop-octet-preserved : goal.loop-octet-preserved
loop-octet-preserved g c =
    let k = c.loop-octet.octet-index in
    let octets = c.args.octets.now in
    let taken = g.K.Sink.taken in record {
      count = c.in-Ok.ensures.cause.by_result ∙ c.loop-octet.invariant.count;
      hands =
          subst (λ (all : List Bool). HandsIn g.C.Channel.stands g.C.Channel.line c.args.number all c.args.channel.now c.take.new.self c.args.text.now (taken c.args.out.now) c.take.new.text (taken c.take.new.out))
          (more_octets octets k c.loop-octet-test.true)
          (hands_then g.C.Channel.stands g.C.Channel.line c.args.number (bits_of (take k octets)) (octet_bits (get_or octets k 0)) c.args.channel.now c.loop-octet.channel c.take.new.self
          c.args.text.now c.loop-octet.text c.take.new.text (taken c.args.out.now) (taken c.loop-octet.out) (taken c.take.new.out) c.loop-octet.invariant.hands c.in-Ok.ensures.hands);
    }

pub returns-in-Err-clause-fails : goal.returns-in-Err-clause-fails
returns-in-Err-clause-fails g c =
    let k = c.loop-octet.octet-index in
    let octets = c.args.octets.now in
    let taken = g.K.Sink.taken in
    subst (λ (all : List Bool). BreaksAmong g.C.Channel.stands g.C.Channel.line c.args.number all c.args.channel.now c.args.text.now (taken c.args.out.now) (taken c.take.new.out))
    (all_octets octets k c.loop-octet-test.true)
    (breaks_behind g.C.Channel.stands g.C.Channel.line c.args.number (bits_of (take k octets)) (octet_bits (get_or octets k 0)) (bits_of (drop (k + 1) octets)) c.args.channel.now c.loop-octet.channel
    c.args.text.now c.loop-octet.text (taken c.args.out.now) (taken c.loop-octet.out) (taken c.take.new.out) c.loop-octet.invariant.hands c.in-Err.ensures.fails)
