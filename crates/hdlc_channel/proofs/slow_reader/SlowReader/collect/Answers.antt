use Rattle.std.proofs.Common.{◌≡◌, false, Option, Some, None, sym, ap, ◌∙◌, subst}
use Rattle.hdlc_channel.specs.Reader.{SlowView, reader_view, collecting}
use Rattle.hdlc_channel.specs.declared.slow_event.SlowEvent.{SlowEvent}
use Rattle.hdlc_channel.specs.declared.slow_event.SlowEvent.TheVariants.{TooLong}
use Rattle.hdlc_channel.proofs.ReaderCases.{collecting_shut, collecting_full, collecting_room}
use Rattle.hdlc_channel.proofs.slow_reader.SlowReader.collect.Goals as goal

pub returns-then-not-self : goal.returns-then-not-self
returns-then-not-self c = collecting_shut c.args.self.now c.args.bit (ap (λ v. v.in_frame) (sym c.self.view_is) ∙ c.if-not-self.true)

pub returns-then-len-eq-MOST_BITS : goal.returns-then-len-eq-MOST_BITS
returns-then-len-eq-MOST_BITS c =
    let i = c.self.inside in
    let v : SlowView = reader_view i.ones i.in_frame i.content i.frame.items i.frame_len in
    let after : SlowView × Option SlowEvent = (record v { in_frame = false }, Some TooLong) in
    subst (λ (x : SlowView). after ≡ collecting x c.args.bit) c.self.view_is
    (collecting_full v c.args.bit c.if-not-self.false (sym c.len.ensures.len ∙ c.if-len-eq-MOST_BITS.true))

pub returns : goal.returns
returns c =
    let i = c.self.inside in
    let v : SlowView = reader_view i.ones i.in_frame i.content i.frame.items i.frame_len in
    let after : SlowView × Option SlowEvent = (record v { collected = c.push.new.self }, None) in
    subst (λ (x : SlowView). after ≡ collecting x c.args.bit) c.self.view_is
    (ap (λ xs. (record v { collected = xs }, None)) c.push.ensures
    ∙ collecting_room v c.args.bit c.if-not-self.false (λ e. c.if-len-eq-MOST_BITS.false (c.len.ensures.len ∙ e)))
