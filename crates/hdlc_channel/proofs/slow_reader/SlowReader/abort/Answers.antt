use Rattle.std.proofs.Common.{◌≡◌, ◌&&◌, nat_lt, if◌then◌else◌, false, length, Some, None, sym, ap, ◌∙◌, subst}
use Rattle.std.proofs.lemmas.Bool.{cond-true, cond-false}
use Rattle.hdlc_channel.specs.Reader.{SlowView, reader_view, aborting}
use Rattle.hdlc_channel.specs.declared.slow_event.SlowEvent.TheVariants.{Aborted}
use Rattle.hdlc_channel.proofs.slow_reader.SlowReader.abort.Goals.{then-self, else-self, then-aborted, else-aborted}
use Rattle.hdlc_channel.proofs.slow_reader.SlowReader.abort.Goals as goal

pub returns : goal.returns
unfolding aborting
returns c =
    let i = c.self.inside in
    let v : SlowView = reader_view i.ones i.in_frame i.content i.frame.items i.frame_len in
    let after : SlowView = record v { ones = 7; in_frame = false } in
    let test : c.if-self.aborted ≡ (i.in_frame && nat_lt 6 (length i.content)) = elim c.if-self.branch [
      | then-self w ↦ w.aborted-is ∙ ap (nat_lt 6) w.len.ensures.len ∙ sym (ap (λ b. b && nat_lt 6 (length i.content)) w.if-self.true)
      | else-self w ↦ w.aborted-is ∙ w.if-self.false ∙ sym (ap (λ b. b && nat_lt 6 (length i.content)) w.if-self.false)
    ] in
    let answer : c.if-aborted.result ≡ (if c.if-self.aborted then Some Aborted else None) = elim c.if-aborted.branch [
      | then-aborted w ↦ w.result-is ∙ sym (cond-true c.if-self.aborted (Some Aborted) None w.if-aborted.true)
      | else-aborted w ↦ w.result-is ∙ sym (cond-false c.if-self.aborted (Some Aborted) None w.if-aborted.false)
    ] in
    subst (λ (x : SlowView). (after, c.if-aborted.result) ≡ aborting x) c.self.view_is
    (ap (λ a. (after, a)) (answer ∙ ap (λ t. if t then Some Aborted else None) test))
