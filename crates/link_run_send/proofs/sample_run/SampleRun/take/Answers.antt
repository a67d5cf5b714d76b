use Rattle.std.proofs.Common.{◌≡◌, ◌+◌, ◌<◌, ◌≤◌, [], ◌∷◌, length, take, set, All, sym, ap, ◌∙◌, subst, arith, refl}
use Rattle.std.proofs.lemmas.List.{take_more_set}
use Rattle.link_sender.specs.HandedIn.{with_samples}
use Rattle.link_sender.specs.Stream.{Stream}
use Rattle.link_text.specs.Gathered.{BreaksOff, Gathers}
use Rattle.link_text.proofs.Gathering.{breaks_then, gathers_then}
use Rattle.sample_bits.specs.Samples.{IsWithin}
use Rattle.link_run_send.specs.Sent.{complete_of, text_below, width_of, with_sample}
use Rattle.link_run_send.specs.SentText.{text_between}
use Rattle.link_run_send.specs.ComesNext.{HandedTo, IsCounted}
use Rattle.link_run_send.proofs.HandedOn.{map_err, map_ok}
use Rattle.link_run_send.proofs.HandedStreams.{with_none}
use Rattle.link_run_send.proofs.TakenSamples.{at_least, both_ok, breaks_first, complete_next, complete_same, fewer_at, first_text, has_on, made_true, second_text, state_split, stream_on, within_more}
use Rattle.link_run_send.proofs.sample_run.SampleRun.take.Goals as goal

pub returns-in-Err-clause-fails : goal.returns-in-Err-clause-fails
returns-in-Err-clause-fails g c = λ s between.
    let w = c.args.self.now in
    let keeps = between.keeps in
    breaks_first w s keeps c.args.sample c.requires.missing c.args.text.now (g.K.Sink.taken c.args.out.now) (g.K.Sink.taken c.make_to.new.out)
    (c.in-Err.ensures.fails keeps.handed keeps.sends)

pub invariant_of-self-then-self : goal.invariant_of-self-then-self
invariant_of-self-then-self g c =
    let w = c.args.self.now in
    let same = c.in-Ok.ensures.same in record {
      of_plan = same.plan ∙ w.of_plan;
      of_run = same.frames ∙ w.of_run;
      announced = same.announcement ∙ w.announced;
      short = w.short;
      next = record {
        within = w.next.within;
        few = w.next.few;
        carrier = w.next.carrier;
        count = w.next.count;
        missing = λ less. c.if-self.true;
        none = λ end. absurd (omega (arith, end, c.requires.missing));
      };
      handed = subst (λ counts. HandedTo w.checked counts w.due.tick w.due.carrier) (sym same.handed) w.handed;
      early = λ less. c.in-Ok.ensures.late (w.early less);
      within = within_more w.checked w.due.carrier w.due.come w.due.samples c.args.sample (omega (arith, w.next.missing c.requires.missing, w.next.few)) w.within c.requires.within;
    }

pub returns-then-self-clause-takes : goal.returns-then-self-clause-takes
returns-then-self-clause-takes g c = λ s between.
    let w = c.args.self.now in
    let keeps = between.keeps in
    let v = c.args.sample in
    let missing = c.requires.missing in
    let reached = c.in-Ok.ensures.tick (w.early missing) in
    let x = with_sample s w.due.carrier v in
    let complete = complete_same w s keeps v missing c.if-self.true in
    let more = take_more_set w.due.samples w.due.come v (omega (arith, w.next.missing missing, w.next.few)) in (
      record {
        keeps = record {
          plan = keeps.plan;
          header = keeps.header;
          output = keeps.output ∙ sym c.in-Ok.ensures.output;
          handed = keeps.handed;
          sends = c.in-Ok.ensures.sends keeps.handed keeps.sends;
          stream = stream_on w s keeps v missing ∙ ap (with_samples keeps.handed w.due.carrier) (sym more);
          settled = complete ∙ sym reached;
          sampled = sym (has_on w s keeps v missing);
          room = keeps.room;
        };
        made = reached ∙ sym (made_true w.header.version w.due.tick);
        fewer = omega (arith, c.if-self.true, w.next.few);
      },
      subst (λ text. Gathers text c.args.text.now (g.K.Sink.taken c.args.out.now) c.make_to.new.text (g.K.Sink.taken c.make_to.new.out))
          (first_text w s keeps v missing ∙ ap (text_below x) (sym complete)) (c.in-Ok.ensures.puts keeps.handed keeps.sends),
    )

pub go_on-requires-clause-within : goal.go_on-requires-clause-within
go_on-requires-clause-within g c =
    let w = c.args.self.now in
    let whole : w.due.count ≡ w.due.come + 1 = omega (arith, w.next.missing c.requires.missing, c.if-self.false) in
    subst (λ n. All (IsWithin (width_of w.checked w.due.carrier)) (take n (set w.due.samples w.due.come c.args.sample))) (sym whole)
    (within_more w.checked w.due.carrier w.due.come w.due.samples c.args.sample (omega (arith, w.next.missing c.requires.missing, w.next.few)) w.within c.requires.within)

pub returns-clause-takes : goal.returns-clause-takes
returns-clause-takes g c = map_ok c.go_on.result
    (λ facts s between.
    let w = c.args.self.now in
    let keeps = between.keeps in
    let v = c.args.sample in
    let missing = c.requires.missing in
    let x = with_sample s w.due.carrier v in
    let whole : w.due.count ≡ w.due.come + 1 = omega (arith, w.next.missing missing, c.if-self.false) in
    let inside : w.due.come < length w.due.samples = omega (arith, w.next.missing missing, w.next.few) in
    let all = ap (λ n. take n (set w.due.samples w.due.come v)) whole ∙ take_more_set w.due.samples w.due.come v inside in
    let stream = stream_on w s keeps v missing ∙ ap (with_samples keeps.handed w.due.carrier) (sym all) in
    let first = c.in-Ok.ensures.sends keeps.handed keeps.sends in
    let counts = subst (λ (τ : Stream). IsCounted w.checked τ c.go_on.new.output.sender.handed) (sym stream) (c.go_on.ensures.counted keeps.handed first.stands) in
    let complete = complete_next w s keeps v missing c.go_on.new.output.sender.handed _ c.go_on.new.due c.go_on.ensures.later counts in
    let output = c.in-Ok.ensures.output in
    let later : w.due.tick ≤ complete_of x = at_least w s keeps v missing in
    let text = second_text w s keeps v missing c.make_to.new.self.output (with_samples keeps.handed w.due.carrier (take w.due.count (set w.due.samples w.due.come v))) c.go_on.new.due.tick (complete_of x) output stream complete in
    let before = c.in-Ok.ensures.puts keeps.handed keeps.sends in
    let split = state_split w s keeps v missing w.due.tick (complete_of x) refl later in
    let rest = text_between s.output s.plan s.header.run_ticks (with_samples s.stream w.due.carrier (v ∷ [])) w.due.tick (complete_of x) in
    let old = g.K.Sink.taken c.args.out.now in
    let mid = g.K.Sink.taken c.make_to.new.out in
    let new = g.K.Sink.taken c.go_on.new.out in
    let moved = subst (λ t. Gathers t c.args.text.now old c.make_to.new.text mid) (first_text w s keeps v missing) before in
    let none = ap (with_samples (with_samples keeps.handed w.due.carrier (take w.due.count (set w.due.samples w.due.come v))) c.go_on.new.due.carrier) c.go_on.ensures.none
    ∙ with_none (with_samples keeps.handed w.due.carrier (take w.due.count (set w.due.samples w.due.come v))) c.go_on.new.due.carrier in (
      record {
        keeps = record {
          plan = keeps.plan;
          header = keeps.header;
          output = keeps.output ∙ sym output ∙ sym c.go_on.ensures.output;
          handed = with_samples keeps.handed w.due.carrier (take w.due.count (set w.due.samples w.due.come v));
          sends = facts.1.0 keeps.handed first;
          stream = stream ∙ sym none;
          settled = complete ∙ sym facts.0;
          sampled = sym (has_on w s keeps v missing);
          room = keeps.room;
        };
        made = facts.0 ∙ sym (made_true w.header.version c.go_on.new.due.tick);
        fewer = fewer_at w s keeps v missing c.go_on.new.output.sender.handed _ c.go_on.new.due refl refl c.go_on.ensures.later;
      },
      subst (λ t. Gathers t c.args.text.now old c.go_on.new.text new) (sym split)
          (gathers_then (text_below x w.due.tick) rest c.args.text.now c.make_to.new.text c.go_on.new.text old mid new moved
          (subst (λ t. Gathers t c.make_to.new.text mid c.go_on.new.text new) text (facts.1.1 keeps.handed first))),
    ))
    (both_ok _ _ c.go_on.result c.go_on.ensures.tick (both_ok _ _ c.go_on.result c.go_on.ensures.sends c.go_on.ensures.puts))

pub returns-clause-fails : goal.returns-clause-fails
returns-clause-fails g c = map_err c.go_on.result
    (λ fails s between.
    let w = c.args.self.now in
    let keeps = between.keeps in
    let v = c.args.sample in
    let missing = c.requires.missing in
    let x = with_sample s w.due.carrier v in
    let whole : w.due.count ≡ w.due.come + 1 = omega (arith, w.next.missing missing, c.if-self.false) in
    let inside : w.due.come < length w.due.samples = omega (arith, w.next.missing missing, w.next.few) in
    let all = ap (λ n. take n (set w.due.samples w.due.come v)) whole ∙ take_more_set w.due.samples w.due.come v inside in
    let stream = stream_on w s keeps v missing ∙ ap (with_samples keeps.handed w.due.carrier) (sym all) in
    let first = c.in-Ok.ensures.sends keeps.handed keeps.sends in
    let counts = subst (λ (τ : Stream). IsCounted w.checked τ c.go_on.new.output.sender.handed) (sym stream) (c.go_on.ensures.counted keeps.handed first.stands) in
    let complete = complete_next w s keeps v missing c.go_on.new.output.sender.handed _ c.go_on.new.due c.go_on.ensures.later counts in
    let output = c.in-Ok.ensures.output in
    let later : w.due.tick ≤ complete_of x = at_least w s keeps v missing in
    let text = second_text w s keeps v missing c.make_to.new.self.output (with_samples keeps.handed w.due.carrier (take w.due.count (set w.due.samples w.due.come v))) c.go_on.new.due.tick (complete_of x) output stream complete in
    let before = c.in-Ok.ensures.puts keeps.handed keeps.sends in
    let split = state_split w s keeps v missing w.due.tick (complete_of x) refl later in
    let rest = text_between s.output s.plan s.header.run_ticks (with_samples s.stream w.due.carrier (v ∷ [])) w.due.tick (complete_of x) in
    let old = g.K.Sink.taken c.args.out.now in
    let mid = g.K.Sink.taken c.make_to.new.out in
    let new = g.K.Sink.taken c.go_on.new.out in
    let moved = subst (λ t. Gathers t c.args.text.now old c.make_to.new.text mid) (first_text w s keeps v missing) before in
    subst (λ t. BreaksOff t c.args.text.now old new) (sym split)
    (breaks_then (text_below x w.due.tick) rest c.args.text.now c.make_to.new.text old mid new moved
    (subst (λ t. BreaksOff t c.make_to.new.text mid new) text (fails keeps.handed first))))
    c.go_on.ensures.fails
