use Rattle.std.proofs.Common.{◌≡◌, sym, ap, ◌∙◌, subst, arith}
use Rattle.link_run_capture.specs.declared.header.Header.{Header}
use Rattle.link_text.specs.Gathered.{BreaksOff, Gathers}
use Rattle.link_run_send.specs.ComesNext.{HandedTo}
use Rattle.link_run_send.proofs.Ends.{ends_at, handed_text, made_at_most}
use Rattle.link_run_send.proofs.HandedOn.{map_err, map_ok}
use Rattle.link_run_send.proofs.TakenSamples.{both_ok}
use Rattle.link_run_send.proofs.sample_feed.SampleRunFeed.end.Goals as goal

pub invariant_of-self : goal.invariant_of-self
invariant_of-self g c =
    let w = c.args.self.now in
    let same = c.make_to.ensures.same in record {
      of_plan = same.plan ∙ w.of_plan;
      of_run = same.frames ∙ w.of_run;
      announced = same.announcement ∙ w.announced;
      short = w.short;
      next = w.next;
      handed = subst (λ counts. HandedTo w.checked counts w.due.tick w.due.carrier) (sym same.handed) w.handed;
      early = λ less. c.make_to.ensures.late (w.early less);
      within = w.within;
    }

pub returns-clause-ends : goal.returns-clause-ends
returns-clause-ends g c =
    map_ok c.make_to.result
    (λ facts s between may.
    let w = c.args.self.now in
    let keeps = between.keeps in
    let over = ends_at w s keeps may in
    let none = (w.next.none over).1 in
    let reached = facts.0 (omega (arith, between.made, made_at_most w.header.version w.sampled w.due.tick)) in
    let run : s.header.run_ticks ≡ w.due.tick = ap (λ (h : Header). h.run_ticks) keeps.header ∙ sym over in (
      record {
        keeps = record {
          plan = keeps.plan;
          header = keeps.header;
          output = keeps.output ∙ sym c.make_to.ensures.output;
          handed = keeps.handed;
          sends = facts.1.0 keeps.handed keeps.sends;
          stream = keeps.stream;
          settled = run ∙ sym reached;
          sampled = keeps.sampled;
          room = keeps.room;
        };
        over = over;
        made = reached ∙ over;
      },
      subst (λ text. Gathers text c.args.text.now (g.K.Sink.taken c.args.out.now) c.make_to.new.text (g.K.Sink.taken c.make_to.new.out))
          (handed_text w s keeps none w.output.sender.tick w.due.tick s.header.run_ticks (sym keeps.settled) run) (facts.1.1 keeps.handed keeps.sends),
    ))
    (both_ok _ _ c.make_to.result c.make_to.ensures.tick (both_ok _ _ c.make_to.result c.make_to.ensures.sends c.make_to.ensures.puts))

pub returns-clause-fails : goal.returns-clause-fails
returns-clause-fails g c =
    map_err c.make_to.result
    (λ fails s between may.
    let w = c.args.self.now in
    let keeps = between.keeps in
    let over = ends_at w s keeps may in
    let none = (w.next.none over).1 in
    let run : s.header.run_ticks ≡ w.due.tick = ap (λ (h : Header). h.run_ticks) keeps.header ∙ sym over in
    subst (λ text. BreaksOff text c.args.text.now (g.K.Sink.taken c.args.out.now) (g.K.Sink.taken c.make_to.new.out))
    (handed_text w s keeps none w.output.sender.tick w.due.tick s.header.run_ticks (sym keeps.settled) run) (fails keeps.handed keeps.sends))
    c.make_to.ensures.fails
