use Rattle.std.proofs.Common.{◌≡◌, ap, sym, ◌∙◌, rules}
use Rattle.ethernet_channel.specs.declared.reader.Step.TheVariants.{Hunting}
use Rattle.ethernet_channel.specs.Bits.{octet_bits}
use Rattle.ethernet_channel.specs.Steps.{run, run_events}
use Rattle.ethernet_channel.proofs.Idle.{ones_run, ones_events, idle_bits}
use Rattle.ethernet_channel.proofs.LowBits.{length-low_bits}
use Rattle.ethernet_channel.proofs.reader.FastReader.take_octet.Goals as goal

pub returns-else-eq-clause-event : goal.returns-else-eq-clause-event
returns-else-eq-clause-event c =
    c.take_groups.ensures.events (octet_bits c.args.octet) (length-low_bits 8 c.args.octet) (sym c.reversed.ensures)

pub returns-else-eq-clause-kept : goal.returns-else-eq-clause-kept
returns-else-eq-clause-kept c =
    c.take_groups.ensures.kept (octet_bits c.args.octet) (length-low_bits 8 c.args.octet) (sym c.reversed.ensures)

pub returns-then-self-eq-IDLE_BITS-clause-event : goal.returns-then-self-eq-IDLE_BITS-clause-event
returns-then-self-eq-IDLE_BITS-clause-event c =
    let step : c.args.self.now.step ≡ Hunting = search rules in
    let recent : c.args.self.now.recent ≡ 1023 = search rules in
    ap (run_events c.args.self.now) (idle_bits c.args.octet c.if-octet-eq-IDLE.true) ∙ ones_events 8 c.args.self.now step recent

pub returns-then-self-eq-IDLE_BITS-clause-kept : goal.returns-then-self-eq-IDLE_BITS-clause-kept
returns-then-self-eq-IDLE_BITS-clause-kept c =
    let step : c.args.self.now.step ≡ Hunting = search rules in
    let recent : c.args.self.now.recent ≡ 1023 = search rules in
    sym (ap (run c.args.self.now) (idle_bits c.args.octet c.if-octet-eq-IDLE.true) ∙ ones_run 8 c.args.self.now step recent)
