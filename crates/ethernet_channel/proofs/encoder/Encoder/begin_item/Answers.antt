use Rattle.std.proofs.Common.{◌≡◌, [], ◌++◌, ◌∙◌, refl, ap}
use Rattle.ethernet_channel.proofs.EncodingTable.{start_bits, idle_bits}
use Rattle.ethernet_channel.proofs.Streams.{begun_frame, begun_idle}
use Rattle.ethernet_channel.proofs.encoder.Encoder.begin_item.Goals as goal

pub returns-then-begin_frame : goal.returns-then-begin_frame
returns-then-begin_frame c =
    begun_frame c.args.self.now _ c.requires.between c.requires.short c.if-begin_frame.ensures
    (c.append.ensures ∙ ap (λ bits. c.args.self.now.register ++ bits) start_bits) refl refl

pub returns-else-begin_frame : goal.returns-else-begin_frame
returns-else-begin_frame c =
    let none : (c.args.self.now.frames.queue ≡ []) × (c.begin_frame.new.self ≡ c.args.self.now.frames) = c.if-begin_frame.ensures in
    begun_idle c.args.self.now _ c.requires.between c.requires.parted c.requires.short none.0
    (c.append-else-begin_frame.ensures ∙ ap (λ bits. c.args.self.now.register ++ bits) idle_bits) c.requires.between none.1
