use Rattle.std.proofs.Common.{◌≡◌, Bool, List, [], take, drop, subst, refl, arith, ◌∙◌}
use Rattle.std.proofs.lemmas.List.{take_all}
use Rattle.hdlc_channel.specs.Bits.{octet_bits}
use Rattle.hdlc_channel.specs.Reader.{StandsFor}
use Rattle.hdlc_channel.proofs.Octets.{given_length}
use Rattle.link_run_management.specs.Events.{slow_line}
use Rattle.link_run_management.specs.HandsIn.{HandsIn, BreaksAmong}
use Rattle.link_run_management.proofs.Handing.{hands_none, hands_then, breaks_behind}
use Rattle.link_run_management.proofs.ChannelLines.{taken_so_far, and_the_rest}
use Rattle.link_run_management.proofs.channel.SlowReaderChannel.take.Goals as goal

pub loop-from-init : goal.loop-from-init
loop-from-init g c = record {
  few = omega arith;
  count = refl;
  hands = hands_none StandsFor slow_line c.args.number c.args.self.now c.args.text.now (g.K.Sink.taken c.args.out.now);
}

pub loop-from-preserved : goal.loop-from-preserved
loop-from-preserved g c =
    let bits = octet_bits c.args.octet in
    let from = c.loop-from.from in
    let n = c.in-Ok.bits in
    let taken = g.K.Sink.taken in record {
      few = c.in-Ok.ensures.within;
      count = c.in-Ok.ensures.cause.by_result ∙ c.loop-from.invariant.count;
      hands =
          subst (λ (all : List Bool). HandsIn StandsFor slow_line c.args.number all c.args.self.now c.push_slow.new.reader c.args.text.now (taken c.args.out.now) c.push_slow.new.text (taken c.push_slow.new.out))
          (taken_so_far bits from n)
          (hands_then StandsFor slow_line c.args.number (take from bits) (take n (drop from bits)) c.args.self.now c.loop-from.self c.push_slow.new.reader
          c.args.text.now c.loop-from.text c.push_slow.new.text (taken c.args.out.now) (taken c.loop-from.out) (taken c.push_slow.new.out) c.loop-from.invariant.hands c.in-Ok.ensures.hands);
    }

pub returns-clause-hands : goal.returns-clause-hands
returns-clause-hands g c =
    let bits = octet_bits c.args.octet in
    let taken = g.K.Sink.taken in
    let whole : take c.loop-from.from bits ≡ bits = take_all c.loop-from.from bits (omega (arith, given_length c.args.octet 0)) in
    subst (λ (all : List Bool). HandsIn StandsFor slow_line c.args.number all c.args.self.now c.loop-from.self c.args.text.now (taken c.args.out.now) c.loop-from.text (taken c.loop-from.out))
    whole c.loop-from.invariant.hands

pub returns-in-Err-clause-fails : goal.returns-in-Err-clause-fails
returns-in-Err-clause-fails g c =
    let bits = octet_bits c.args.octet in
    let from = c.loop-from.from in
    let taken = g.K.Sink.taken in
    subst (λ (all : List Bool). BreaksAmong StandsFor slow_line c.args.number all c.args.self.now c.args.text.now (taken c.args.out.now) (taken c.push_slow.new.out))
    (and_the_rest bits from)
    (breaks_behind StandsFor slow_line c.args.number (take from bits) (drop from bits) [] c.args.self.now c.loop-from.self
    c.args.text.now c.loop-from.text (taken c.args.out.now) (taken c.loop-from.out) (taken c.push_slow.new.out) c.loop-from.invariant.hands c.in-Err.ensures.fails)
