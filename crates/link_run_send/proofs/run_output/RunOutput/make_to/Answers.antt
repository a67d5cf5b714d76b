use Rattle.std.proofs.Common.{◌≡◌, ◌∙◌, ◌+◌, ◌≤◌, arith, refl, subst}
use Rattle.link_text.specs.Gathered.{Gathers, BreaksOff}
use Rattle.link_run_send.specs.SentText.{tick_text}
use Rattle.link_run_send.proofs.MadeTicks.{breaks_tick, gathers_begun, gathers_tick, gathers_to}
use Rattle.link_run_send.proofs.run_output.RunOutput.make_to.Goals as goal

pub loop-self-init : goal.loop-self-init
loop-self-init g c =
    let start = c.args.self.now.sender in
    let what = c.args.self.now.output in record {
      same = record { plan = refl; frames = refl; announcement = refl; handed = refl };
      output = refl;
      later = omega arith;
      ahead = λ before. before;
      stays = λ behind. refl;
      sends = λ σ sends. sends;
      text = λ σ sends. gathers_begun what start.plan start.frames σ start.tick c.args.text.now (g.K.Sink.taken c.args.out.now);
      writes = refl;
    }

pub loop-self-preserved : goal.loop-self-preserved
loop-self-preserved g c =
    let taken = g.K.Sink.taken in
    let start = c.args.self.now.sender in
    let what = c.args.self.now.output in
    let before = c.loop-self.self.sender in
    let after = c.make_tick.new.self.sender in
    let so_far = c.loop-self.invariant in
    let now : c.now.result ≡ before.tick = c.now.ensures in
    let next : after.tick ≡ before.tick + 1 = c.in-Ok.ensures.tick in
    let kept = c.in-Ok.ensures.same in record {
      same = record {
        plan = kept.plan ∙ so_far.same.plan;
        frames = kept.frames ∙ so_far.same.frames;
        announcement = kept.announcement ∙ so_far.same.announcement;
        handed = kept.handed ∙ so_far.same.handed;
      };
      output = c.in-Ok.ensures.output ∙ so_far.output;
      later = omega (arith, so_far.later, next);
      ahead = λ ahead. omega (arith, c.loop-self-test.true, next, now);
      stays = λ behind. absurd (omega (arith, c.loop-self-test.true, so_far.stays behind, now));
      sends = λ σ sends. c.in-Ok.ensures.sends σ (so_far.sends σ sends);
      text = λ σ sends.
          gathers_tick what start.plan start.frames σ start.tick before.tick after.tick c.args.text.now c.loop-self.text c.make_tick.new.text
          (taken c.args.out.now) (taken c.loop-self.out) (taken c.make_tick.new.out) so_far.later next (so_far.text σ sends)
          (subst (λ o. Gathers (tick_text o start.plan start.frames σ before.tick) c.loop-self.text (taken c.loop-self.out) c.make_tick.new.text (taken c.make_tick.new.out)) so_far.output
          (subst (λ p. Gathers (tick_text c.loop-self.self.output p start.frames σ before.tick) c.loop-self.text (taken c.loop-self.out) c.make_tick.new.text (taken c.make_tick.new.out)) so_far.same.plan
          (subst (λ h. Gathers (tick_text c.loop-self.self.output before.plan h σ before.tick) c.loop-self.text (taken c.loop-self.out) c.make_tick.new.text (taken c.make_tick.new.out)) so_far.same.frames
          (c.in-Ok.ensures.puts σ (so_far.sends σ sends)))));
      writes = c.in-Ok.ensures.cause.by_result ∙ so_far.writes;
    }

pub returns-in-Err-clause-fails : goal.returns-in-Err-clause-fails
returns-in-Err-clause-fails g c σ sends =
    let taken = g.K.Sink.taken in
    let start = c.args.self.now.sender in
    let what = c.args.self.now.output in
    let before = c.loop-self.self.sender in
    let so_far = c.loop-self.invariant in
    let now : c.now.result ≡ before.tick = c.now.ensures in
    breaks_tick what start.plan start.frames σ start.tick before.tick c.args.end c.args.text.now c.loop-self.text
    (taken c.args.out.now) (taken c.loop-self.out) (taken c.make_tick.new.out) so_far.later (omega (arith, c.loop-self-test.true, now)) (so_far.text σ sends)
    (subst (λ o. BreaksOff (tick_text o start.plan start.frames σ before.tick) c.loop-self.text (taken c.loop-self.out) (taken c.make_tick.new.out)) so_far.output
    (subst (λ p. BreaksOff (tick_text c.loop-self.self.output p start.frames σ before.tick) c.loop-self.text (taken c.loop-self.out) (taken c.make_tick.new.out)) so_far.same.plan
    (subst (λ h. BreaksOff (tick_text c.loop-self.self.output before.plan h σ before.tick) c.loop-self.text (taken c.loop-self.out) (taken c.make_tick.new.out)) so_far.same.frames
    (c.in-Err.ensures.fails σ (so_far.sends σ sends)))))

pub returns-clause-puts : goal.returns-clause-puts
returns-clause-puts g c σ sends =
    let taken = g.K.Sink.taken in
    let start = c.args.self.now.sender in
    let what = c.args.self.now.output in
    let now = c.loop-self.self.sender in
    let so_far = c.loop-self.invariant in
    let is : c.now.result ≡ now.tick = c.now.ensures in
    let done : c.args.end ≤ now.tick = omega (arith, c.loop-self-test.false, is) in
    gathers_to what start.plan start.frames σ start.tick now.tick c.args.end c.args.text.now c.loop-self.text (taken c.args.out.now) (taken c.loop-self.out)
    (λ ahead. omega (arith, done, so_far.ahead ahead)) so_far.stays (so_far.text σ sends)
