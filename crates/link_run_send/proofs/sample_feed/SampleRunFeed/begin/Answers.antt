use Rattle.std.proofs.Common.{◌++◌, sym, ap, ◌∙◌, subst, arith, refl}
use Rattle.link_run_capture.specs.declared.header.Version.TheVariants.{Two}
use Rattle.link_text.specs.Gathered.{BreaksOff, Gathers}
use Rattle.link_text.proofs.Gathering.{breaks_then, gathers_then}
use Rattle.link_run_send.specs.Sent.{Sent, first_settled, has_samples, settled_to, text_below, unsent}
use Rattle.link_run_send.specs.Sends.{made_to, room_for}
use Rattle.link_run_send.specs.SentText.{first_line}
use Rattle.link_run_send.proofs.Ends.{breaks_more, gathers_nothing_more, handed_text}
use Rattle.link_run_send.proofs.HandedOn.{map_err, map_ok}
use Rattle.link_run_send.proofs.Kept.{complete_is}
use Rattle.link_run_send.proofs.SettledTexts.{text_none}
use Rattle.link_run_send.proofs.TakenSamples.{both_ok}
use Rattle.link_run_send.proofs.sample_feed.SampleRunFeed.begin.Goals as goal

pub returns-in-Err-clause-fails : goal.returns-in-Err-clause-fails
returns-in-Err-clause-fails g c = λ s settled before.
    let w = c.args.self.now in
    let u = unsent w.output.output w.checked w.header in
    subst (λ t. BreaksOff t c.args.text.now (g.K.Sink.taken c.args.out.now) (g.K.Sink.taken c.put_first_line.new.out)) (sym before.written)
    (breaks_more (first_line w.output.output w.checked w.header) (text_below u (first_settled w.header.version u)) c.args.text.now _ _ c.in-Err.ensures.fails)

pub returns-in-One-clause-begins : goal.returns-in-One-clause-begins
returns-in-One-clause-begins g c = map_ok c.make_to.result
    (λ facts s settled before.
    let w = c.args.self.now in
    let u = unsent w.output.output w.checked w.header in
    let keeps = before.keeps in
    let line = first_line w.output.output w.checked w.header in
    let count = ap (λ v. first_settled v u) c.in-One.is ∙ complete_is w u keeps in
    let state = before.state ∙ ap (settled_to u) count in
    let all = before.written ∙ ap (λ n. line ++ text_below u n) count in
    let old = g.K.Sink.taken c.args.out.now in
    let mid = g.K.Sink.taken c.put_first_line.new.out in
    let new = g.K.Sink.taken c.make_to.new.out in
    let text = handed_text w u keeps before.none_come w.output.sender.tick w.due.tick w.due.tick before.first refl in
    let reached = facts.0 (omega (arith, before.first)) in (
      record {
        keeps = record {
          plan = ap (λ (x : Sent). x.plan) state;
          header = ap (λ (x : Sent). x.header) state;
          output = ap (λ (x : Sent). x.output) state ∙ sym c.make_to.ensures.output;
          handed = keeps.handed;
          sends = facts.1.0 keeps.handed keeps.sends;
          stream = ap (λ (x : Sent). x.stream) state ∙ keeps.stream;
          settled = ap (λ (x : Sent). x.settled) state ∙ sym reached;
          sampled = keeps.sampled ∙ sym (ap (λ (x : Sent). has_samples x.stream) state);
          room = keeps.room ∙ sym (ap (λ (x : Sent). room_for x.stream) state);
        };
        made = reached ∙ sym (ap (λ v. made_to v w.sampled w.due.tick) c.in-One.is);
        left = before.left;
      },
      subst (λ t. Gathers t c.args.text.now old c.make_to.new.text new) (sym all)
          (gathers_then line (text_below u w.due.tick) c.args.text.now c.put_first_line.new.text c.make_to.new.text old mid new c.in-Ok.ensures.puts
          (subst (λ t. Gathers t c.put_first_line.new.text mid c.make_to.new.text new) text (facts.1.1 keeps.handed keeps.sends))),
    ))
    (both_ok _ _ c.make_to.result c.make_to.ensures.tick (both_ok _ _ c.make_to.result c.make_to.ensures.sends c.make_to.ensures.puts))

pub returns-in-One-clause-fails : goal.returns-in-One-clause-fails
returns-in-One-clause-fails g c = map_err c.make_to.result
    (λ fails s settled before.
    let w = c.args.self.now in
    let u = unsent w.output.output w.checked w.header in
    let keeps = before.keeps in
    let line = first_line w.output.output w.checked w.header in
    let count = ap (λ v. first_settled v u) c.in-One.is ∙ complete_is w u keeps in
    let state = before.state ∙ ap (settled_to u) count in
    let all = before.written ∙ ap (λ n. line ++ text_below u n) count in
    let old = g.K.Sink.taken c.args.out.now in
    let mid = g.K.Sink.taken c.put_first_line.new.out in
    let new = g.K.Sink.taken c.make_to.new.out in
    let text = handed_text w u keeps before.none_come w.output.sender.tick w.due.tick w.due.tick before.first refl in
    subst (λ t. BreaksOff t c.args.text.now old new) (sym all)
    (breaks_then line (text_below u w.due.tick) c.args.text.now c.put_first_line.new.text old mid new c.in-Ok.ensures.puts
    (subst (λ t. BreaksOff t c.put_first_line.new.text mid new) text (fails keeps.handed keeps.sends))))
    c.make_to.ensures.fails

pub returns-in-Two-clause-begins : goal.returns-in-Two-clause-begins
returns-in-Two-clause-begins g c = λ s settled before.
    let w = c.args.self.now in
    let u = unsent w.output.output w.checked w.header in
    let keeps = before.keeps in
    let line = first_line w.output.output w.checked w.header in
    let count = ap (λ v. first_settled v u) c.in-Two.is in
    let state = before.state ∙ ap (settled_to u) count in
    let all = before.written ∙ ap (λ n. line ++ text_below u n) count in
    let old = g.K.Sink.taken c.args.out.now in
    let new = g.K.Sink.taken c.put_first_line.new.out in (
      record {
        keeps = record {
          plan = ap (λ (x : Sent). x.plan) state;
          header = ap (λ (x : Sent). x.header) state;
          output = ap (λ (x : Sent). x.output) state;
          handed = keeps.handed;
          sends = keeps.sends;
          stream = ap (λ (x : Sent). x.stream) state ∙ keeps.stream;
          settled = ap (λ (x : Sent). x.settled) state ∙ sym before.first;
          sampled = keeps.sampled ∙ sym (ap (λ (x : Sent). has_samples x.stream) state);
          room = keeps.room ∙ sym (ap (λ (x : Sent). room_for x.stream) state);
        };
        made = before.first ∙ sym (ap (λ v. made_to v w.sampled w.due.tick) c.in-Two.is ∙ ap (λ b. made_to Two b w.due.tick) before.unsampled);
        left = before.left;
      },
      subst (λ t. Gathers t c.args.text.now old c.put_first_line.new.text new) (sym all)
          (gathers_nothing_more line (text_below u 0) c.args.text.now c.put_first_line.new.text old new (text_none u.output u.plan u.header.run_ticks u.stream 0 0 (omega arith)) c.in-Ok.ensures.puts),
    )
