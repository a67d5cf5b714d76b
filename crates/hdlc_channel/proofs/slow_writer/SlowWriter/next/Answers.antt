use Rattle.std.proofs.Common.{◌++◌, ap, ◌∙◌, append_assoc}
use Rattle.hdlc_channel.specs.Bits.{octet_bits}
use Rattle.hdlc_channel.specs.Outgoing.{channel_of, filled}
use Rattle.hdlc_channel.proofs.Registers.{length-octet_bits}
use Rattle.hdlc_channel.proofs.Streams.{taken_first, taken_left}
use Rattle.hdlc_channel.proofs.slow_writer.SlowWriter.next.Goals as goal

pub returns-clause-bits : goal.returns-clause-bits
returns-clause-bits c =
    let f = channel_of c.fill.new.outgoing c.fill.new.queue in
    taken_first c.args.self.now f (octet_bits c.take_octet.result) (c.take_octet.new.self.ready ++ c.fill.new.outgoing.later) (c.fill.ensures.same ∙ ap filled c.self.view_is)
    (ap (λ r. r ++ c.fill.new.outgoing.later) c.take_octet.ensures.octet ∙ append_assoc (octet_bits c.take_octet.result) c.take_octet.new.self.ready c.fill.new.outgoing.later)
    (length-octet_bits c.take_octet.result)

pub returns-clause-left : goal.returns-clause-left
returns-clause-left c =
    let f = channel_of c.fill.new.outgoing c.fill.new.queue in
    ap (λ l. record { rest = c.take_octet.new.self.ready ++ l; queue = c.fill.new.queue }) c.take_octet.ensures.later
    ∙ taken_left c.args.self.now f (octet_bits c.take_octet.result) (c.take_octet.new.self.ready ++ c.fill.new.outgoing.later) (c.fill.ensures.same ∙ ap filled c.self.view_is)
    (ap (λ r. r ++ c.fill.new.outgoing.later) c.take_octet.ensures.octet ∙ append_assoc (octet_bits c.take_octet.result) c.take_octet.new.self.ready c.fill.new.outgoing.later)
    (length-octet_bits c.take_octet.result)
