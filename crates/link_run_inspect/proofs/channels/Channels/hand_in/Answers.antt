use Rattle.std.proofs.Common.{ℕ, List, ◌++◌, subst, refl, ◌∙◌, append_assoc}
use Rattle.hdlc_channel.specs.Bits.{bits_of}
use Rattle.hdlc_channel.specs.Reader.{StandsFor as SlowStandsFor}
use Rattle.ethernet_channel.specs.Keeps.{StandsFor as FastStandsFor}
use Rattle.link_base.specs.Sink.{AppendsFront}
use Rattle.link_text.proofs.Gathering.{gathers_then, breaks_then, front_of_more}
use Rattle.link_run_inspect.specs.Managed.{slow_octets, fast_octets, handed_in}
use Rattle.link_run_management.specs.Events.{slow_line, fast_line, bit_lines}
use Rattle.link_run_inspect.specs.Events.{handed_text}
use Rattle.link_run_management.specs.HandsIn.{HandsIn, BreaksAmong}
use Rattle.link_run_inspect.proofs.channels.Channels.hand_in.Goals as goal

pub returns-clause-stands : goal.returns-clause-stands
unfolding handed_in
returns-clause-stands g c m h =
    let taken = g.K.Sink.taken in
    let slow = subst (λ (o : List ℕ). HandsIn SlowStandsFor slow_line c.args.number (bits_of o) c.args.self.now.slow c.push_octets.new.channel c.args.text.now (taken c.args.out.now) c.push_octets.new.text (taken c.push_octets.new.out))
    (c.as_slice.ensures.value ∙ c.take_slow.ensures) c.in-Ok.ensures.hands in
    let fast = subst (λ (o : List ℕ). HandsIn FastStandsFor fast_line c.args.number (bits_of o) c.args.self.now.fast c.push_octets-2.new.channel c.push_octets.new.text (taken c.push_octets.new.out) c.push_octets-2.new.text (taken c.push_octets-2.new.out))
    (c.as_slice-2.ensures.value ∙ c.take_fast.ensures) c.in-Ok-push_octets.ensures.hands in
    record { announced = refl; slow = (slow m.slow h.slow).0; fast = (fast m.fast h.fast).0 }

pub returns-clause-gathers : goal.returns-clause-gathers
unfolding handed_text
returns-clause-gathers g c m h =
    let taken = g.K.Sink.taken in
    let slow = subst (λ (o : List ℕ). HandsIn SlowStandsFor slow_line c.args.number (bits_of o) c.args.self.now.slow c.push_octets.new.channel c.args.text.now (taken c.args.out.now) c.push_octets.new.text (taken c.push_octets.new.out))
    (c.as_slice.ensures.value ∙ c.take_slow.ensures) c.in-Ok.ensures.hands in
    let fast = subst (λ (o : List ℕ). HandsIn FastStandsFor fast_line c.args.number (bits_of o) c.args.self.now.fast c.push_octets-2.new.channel c.push_octets.new.text (taken c.push_octets.new.out) c.push_octets-2.new.text (taken c.push_octets-2.new.out))
    (c.as_slice-2.ensures.value ∙ c.take_fast.ensures) c.in-Ok-push_octets.ensures.hands in
    gathers_then (bit_lines slow_line c.args.number m.slow (bits_of (slow_octets c.args.width c.args.a c.args.control.now))) (bit_lines fast_line c.args.number m.fast (bits_of (fast_octets c.args.width c.args.a c.args.control.now)))
    c.args.text.now c.push_octets.new.text c.push_octets-2.new.text (taken c.args.out.now) (taken c.push_octets.new.out) (taken c.push_octets-2.new.out)
    (slow m.slow h.slow).1 (fast m.fast h.fast).1

pub returns-in-Err-clause-fails : goal.returns-in-Err-clause-fails
unfolding handed_text
returns-in-Err-clause-fails g c m h =
    let taken = g.K.Sink.taken in
    let slow = bit_lines slow_line c.args.number m.slow (bits_of (slow_octets c.args.width c.args.a c.args.control.now)) in
    let fast = bit_lines fast_line c.args.number m.fast (bits_of (fast_octets c.args.width c.args.a c.args.control.now)) in
    let broken = subst (λ (o : List ℕ). BreaksAmong SlowStandsFor slow_line c.args.number (bits_of o) c.args.self.now.slow c.args.text.now (taken c.args.out.now) (taken c.push_octets.new.out))
    (c.as_slice.ensures.value ∙ c.take_slow.ensures) c.in-Err.ensures.fails in
    subst (λ (t : List ℕ). AppendsFront t (taken c.args.out.now) (taken c.push_octets.new.out)) (append_assoc c.args.text.now slow fast)
    (front_of_more (c.args.text.now ++ slow) fast (taken c.args.out.now) (taken c.push_octets.new.out) (broken m.slow h.slow))

pub returns-in-Err-push_octets-clause-fails : goal.returns-in-Err-push_octets-clause-fails
unfolding handed_text
returns-in-Err-push_octets-clause-fails g c m h =
    let taken = g.K.Sink.taken in
    let slow = bit_lines slow_line c.args.number m.slow (bits_of (slow_octets c.args.width c.args.a c.args.control.now)) in
    let fast = bit_lines fast_line c.args.number m.fast (bits_of (fast_octets c.args.width c.args.a c.args.control.now)) in
    let handed = subst (λ (o : List ℕ). HandsIn SlowStandsFor slow_line c.args.number (bits_of o) c.args.self.now.slow c.push_octets.new.channel c.args.text.now (taken c.args.out.now) c.push_octets.new.text (taken c.push_octets.new.out))
    (c.as_slice.ensures.value ∙ c.take_slow.ensures) c.in-Ok.ensures.hands in
    let broken = subst (λ (o : List ℕ). BreaksAmong FastStandsFor fast_line c.args.number (bits_of o) c.args.self.now.fast c.push_octets.new.text (taken c.push_octets.new.out) (taken c.push_octets-2.new.out))
    (c.as_slice-2.ensures.value ∙ c.take_fast.ensures) c.in-Err-push_octets.ensures.fails in
    breaks_then slow fast c.args.text.now c.push_octets.new.text (taken c.args.out.now) (taken c.push_octets.new.out) (taken c.push_octets-2.new.out)
    (handed m.slow h.slow).1 (broken m.fast h.fast)
