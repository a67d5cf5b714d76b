use Rattle.std.proofs.Common.{◌≡◌, ◌*◌, length, ap, ◌∙◌, arith}
use Rattle.link_sender.proofs.Slots.{length-more_copies, more_copies}
use Rattle.link_sender.proofs.packet_ring.copies.Goals as goal

pub loop-init : goal.loop-init
loop-init c = record { count = ap length c.in_ok-all.ensures.items ∙ omega arith; each = λ j less. absurd (omega arith) }

pub loop-preserved : goal.loop-preserved
loop-preserved c =
    let more = c.in_ok-extend_from_slice.ensures.items in
    record {
      count = length-more_copies c.args.octets.now c.loop.all.items c.extend_from_slice.new.self.items c.loop.counter more c.loop.invariant.count;
      each = more_copies c.args.octets.now c.loop.all.items c.extend_from_slice.new.self.items c.loop.counter more c.loop.invariant.count c.loop.invariant.each;
    }

pub returns-clause-length : goal.returns-clause-length
returns-clause-length c =
    let all : c.loop.counter ≡ c.args.count = omega arith in
    c.loop.invariant.count ∙ ap (λ n. n * length c.args.octets.now) all

pub returns-clause-each : goal.returns-clause-each
returns-clause-each c = λ j less. c.loop.invariant.each j (omega arith)
