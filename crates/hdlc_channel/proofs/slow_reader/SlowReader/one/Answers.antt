use Rattle.std.proofs.Common.{true, sym, ap, ◌∙◌}
use Rattle.hdlc_channel.specs.Reader.{SlowView, reader_view, collecting, step}
use Rattle.hdlc_channel.proofs.ReaderCases.{seventh_one, other_one}
use Rattle.hdlc_channel.proofs.slow_reader.SlowReader.one.Goals as goal

pub returns-then-self-eq6 : goal.returns-then-self-eq6
returns-then-self-eq6 c = c.abort.ensures ∙ seventh_one c.args.self.now (ap (λ v. v.ones) (sym c.self.view_is) ∙ c.if-self-eq6.true)

pub returns : goal.returns
returns c =
    let i = c.self.inside in
    let v : SlowView = reader_view i.ones i.in_frame i.content i.frame.items i.frame_len in
    c.collect.ensures ∙ ap (λ n. collecting (record v { ones = n }) true) c.one_more-self-inside.ensures
    ∙ other_one v c.if-self-eq6.false ∙ ap (λ x. step x true) c.self.view_is
