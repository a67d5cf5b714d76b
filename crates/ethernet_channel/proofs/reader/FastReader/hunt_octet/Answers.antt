use Rattle.std.proofs.Common.{inl, inr, arith, sym, ◌∙◌}
use Rattle.ethernet_channel.specs.Bits.{octet_bits}
use Rattle.ethernet_channel.proofs.Runs.{goes_first, goes_step, goes_end}
use Rattle.ethernet_channel.proofs.reader.FastReader.hunt_octet.Goals.{then-is_some, else-is_some}
use Rattle.ethernet_channel.proofs.reader.FastReader.hunt_octet.Goals as goal

pub loop-place-init : goal.loop-place-init
loop-place-init c = goes_first c.args.self.now (octet_bits c.args.octet)

pub loop-place-preserved : goal.loop-place-preserved
loop-place-preserved c =
    let event = c.take_bit-event.result in
    goes_step event c.loop-place.found c.if-is_some.found c.args.self.now c.loop-place.self c.take_bit-event.new.self
    (octet_bits c.args.octet) c.loop-place.place c.loop-place.rest (omega arith)
    (c.take_bit-event.ensures.event, c.take_bit-event.ensures.kept)
    (elim c.if-is_some.branch [
      | then-is_some w ↦ inl (sym c.is_some.ensures ∙ w.if-is_some.true, w.found-is)
      | else-is_some w ↦ inr (sym c.is_some.ensures ∙ w.if-is_some.false, w.found-is)
    ])
    c.loop-place.invariant

pub returns : goal.returns
returns c =
    let all = goes_end c.loop-place.found c.args.self.now c.loop-place.self (octet_bits c.args.octet) c.loop-place.place c.loop-place.rest
    _ (omega arith) c.loop-place.invariant in
    record { event = all.0; kept = all.1 }
