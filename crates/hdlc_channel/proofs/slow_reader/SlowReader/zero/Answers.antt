use Rattle.std.proofs.Common.{false, sym, ap, ◌∙◌}
use Rattle.hdlc_channel.specs.Reader.{SlowView, reader_view, step}
use Rattle.hdlc_channel.proofs.ReaderCases.{zero_stuffed, zero_of_flag, zero_collected}
use Rattle.hdlc_channel.proofs.slow_reader.SlowReader.zero.Goals as goal

pub returns-then-self-eq6 : goal.returns-then-self-eq6
returns-then-self-eq6 c = c.flag.ensures ∙ zero_of_flag c.args.self.now (ap (λ v. v.ones) (sym c.self.view_is) ∙ c.if-self-eq6.true)

pub returns-then-is_stuffing : goal.returns-then-is_stuffing
returns-then-is_stuffing c =
    let i = c.self.inside in
    let v : SlowView = reader_view i.ones i.in_frame i.content i.frame.items i.frame_len in
    zero_stuffed v c.if-is_stuffing.true ∙ ap (λ x. step x false) c.self.view_is

pub returns-else-is_stuffing : goal.returns-else-is_stuffing
returns-else-is_stuffing c =
    let i = c.self.inside in
    let v : SlowView = reader_view i.ones i.in_frame i.content i.frame.items i.frame_len in
    c.collect.ensures ∙ zero_collected v c.if-is_stuffing.false c.if-self-eq6.false ∙ ap (λ x. step x false) c.self.view_is
