use Rattle.std.proofs.Common.{◌≡◌, sym, ap, ◌∙◌, subst}
use Rattle.std.specs.Prelude.{codes}
use Rattle.link_run_capture.specs.declared.header.Header.{Header}
use Rattle.link_text.specs.Gathered.{BreaksOff, Gathers}
use Rattle.link_text.specs.Printed.{ended}
use Rattle.link_text.proofs.Gathering.{breaks_then, gathers_then}
use Rattle.link_run_send.specs.Sent.{text_below}
use Rattle.link_run_send.specs.SentText.{last_tick}
use Rattle.link_run_send.proofs.Ends.{breaks_more, handed_text}
use Rattle.link_run_send.proofs.HandedOn.{map_err, map_ok}
use Rattle.link_run_send.proofs.sample_feed.SampleRunFeed.close.Goals as goal

pub returns-in-Ok-clause-closes : goal.returns-in-Ok-clause-closes
returns-in-Ok-clause-closes g c = map_ok c.put_last_line.result
    (λ puts s after.
    let w = c.args.self.now in
    let keeps = after.keeps in
    let none = (w.next.none after.over).1 in
    let end : last_tick s.output s.plan s.header.run_ticks ≡ c.last_tick-end.result =
    ap (λ o. last_tick o s.plan s.header.run_ticks) keeps.output ∙ ap (λ p. last_tick w.output.output p s.header.run_ticks) keeps.plan
    ∙ ap (λ (h : Header). last_tick w.output.output w.checked h.run_ticks) keeps.header ∙ sym c.last_tick-end.ensures.value
    in
    let text = handed_text w s keeps none w.output.sender.tick c.last_tick-end.result (last_tick s.output s.plan s.header.run_ticks) (sym keeps.settled) end in
    let rest = text_below s (last_tick s.output s.plan s.header.run_ticks) in
    let old = g.K.Sink.taken c.args.out.now in
    let mid = g.K.Sink.taken c.make_to.new.out in
    gathers_then rest (ended (codes "end")) c.args.text.now c.make_to.new.text c.put_last_line.new.text old mid (g.K.Sink.taken c.put_last_line.new.out)
    (subst (λ t. Gathers t c.args.text.now old c.make_to.new.text mid) text (c.in-Ok.ensures.puts keeps.handed keeps.sends)) puts)
    c.put_last_line.ensures.puts

pub returns-in-Ok-clause-fails : goal.returns-in-Ok-clause-fails
returns-in-Ok-clause-fails g c = map_err c.put_last_line.result
    (λ fails s after.
    let w = c.args.self.now in
    let keeps = after.keeps in
    let none = (w.next.none after.over).1 in
    let end : last_tick s.output s.plan s.header.run_ticks ≡ c.last_tick-end.result =
    ap (λ o. last_tick o s.plan s.header.run_ticks) keeps.output ∙ ap (λ p. last_tick w.output.output p s.header.run_ticks) keeps.plan
    ∙ ap (λ (h : Header). last_tick w.output.output w.checked h.run_ticks) keeps.header ∙ sym c.last_tick-end.ensures.value
    in
    let text = handed_text w s keeps none w.output.sender.tick c.last_tick-end.result (last_tick s.output s.plan s.header.run_ticks) (sym keeps.settled) end in
    let rest = text_below s (last_tick s.output s.plan s.header.run_ticks) in
    let old = g.K.Sink.taken c.args.out.now in
    let mid = g.K.Sink.taken c.make_to.new.out in
    breaks_then rest (ended (codes "end")) c.args.text.now c.make_to.new.text old mid (g.K.Sink.taken c.put_last_line.new.out)
    (subst (λ t. Gathers t c.args.text.now old c.make_to.new.text mid) text (c.in-Ok.ensures.puts keeps.handed keeps.sends)) fails)
    c.put_last_line.ensures.fails

pub returns-in-Err-clause-fails : goal.returns-in-Err-clause-fails
returns-in-Err-clause-fails g c = λ s after.
    let w = c.args.self.now in
    let keeps = after.keeps in
    let none = (w.next.none after.over).1 in
    let end : last_tick s.output s.plan s.header.run_ticks ≡ c.last_tick-end.result =
    ap (λ o. last_tick o s.plan s.header.run_ticks) keeps.output ∙ ap (λ p. last_tick w.output.output p s.header.run_ticks) keeps.plan
    ∙ ap (λ (h : Header). last_tick w.output.output w.checked h.run_ticks) keeps.header ∙ sym c.last_tick-end.ensures.value
    in
    let text = handed_text w s keeps none w.output.sender.tick c.last_tick-end.result (last_tick s.output s.plan s.header.run_ticks) (sym keeps.settled) end in
    let rest = text_below s (last_tick s.output s.plan s.header.run_ticks) in
    let old = g.K.Sink.taken c.args.out.now in
    let mid = g.K.Sink.taken c.make_to.new.out in
    breaks_more rest (ended (codes "end")) c.args.text.now old mid (subst (λ t. BreaksOff t c.args.text.now old mid) text (c.in-Err.ensures.fails keeps.handed keeps.sends))
