use Rattle.std.proofs.Common.{◌∙◌, ap, sym}
use Rattle.ethernet_channel.specs.FastStream.{fast_stream, after_bits}
use Rattle.ethernet_channel.proofs.Streams.{taken}
use Rattle.ethernet_channel.proofs.writer.FastWriter.next.Goals as goal

pub returns-clause-bits : goal.returns-clause-bits
returns-clause-bits c =
    sym ((taken c.fill.new.self c.take_octet.result c.take_octet.new.self c.take_octet.ensures).1)
    ∙ c.fill.ensures.same.stream ∙ ap (λ x. fast_stream x 8) c.self.view_is

pub returns-clause-after : goal.returns-clause-after
returns-clause-after c =
    sym ((taken c.fill.new.self c.take_octet.result c.take_octet.new.self c.take_octet.ensures).0)
    ∙ c.fill.ensures.same.after ∙ ap (after_bits 8) c.self.view_is
