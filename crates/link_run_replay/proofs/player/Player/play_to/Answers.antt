use Rattle.std.proofs.Common.{◌≡◌, ◌∙◌, ◌+◌, ◌≤◌, arith, refl, subst}
use Rattle.link_text.specs.Gathered.{Gathers, BreaksOff}
use Rattle.link_run_replay.specs.RunText.{tick_text}
use Rattle.link_run_replay.proofs.Playing.{gathers_begun, gathers_tick, breaks_tick, gathers_to}
use Rattle.link_run_replay.proofs.player.Player.play_to.Goals as goal

pub loop-self-init : goal.loop-self-init
loop-self-init g c =
    let start = c.args.self.now.session in record {
      plan = refl;
      frames = refl;
      later = omega arith;
      ahead = λ before. before;
      stays = λ behind. refl;
      plays = λ a records plays. plays;
      text = λ a records plays. gathers_begun start.plan start.frames a records start.tick c.args.text.now (g.K.Sink.taken c.args.out.now);
      writes = refl;
    }

pub loop-self-preserved : goal.loop-self-preserved
loop-self-preserved g c =
    let taken = g.K.Sink.taken in
    let start = c.args.self.now.session in
    let before = c.loop-self.self.session in
    let after = c.play_tick.new.self.session in
    let so_far = c.loop-self.invariant in
    let now : c.now.result ≡ before.tick = c.now.ensures in
    let next : after.tick ≡ before.tick + 1 = c.in-Ok.ensures.tick in record {
      plan = c.in-Ok.ensures.plan ∙ so_far.plan;
      frames = c.in-Ok.ensures.frames ∙ so_far.frames;
      later = omega (arith, so_far.later, next);
      ahead = λ ahead. omega (arith, c.loop-self-test.true, next, now);
      stays = λ behind. absurd (omega (arith, c.loop-self-test.true, so_far.stays behind, now));
      plays = λ a records plays. c.in-Ok.ensures.plays a records (so_far.plays a records plays);
      text = λ a records plays.
          gathers_tick start.plan start.frames a records start.tick before.tick after.tick c.args.text.now c.loop-self.text c.play_tick.new.text
          (taken c.args.out.now) (taken c.loop-self.out) (taken c.play_tick.new.out) so_far.later next (so_far.text a records plays)
          (subst (λ p. Gathers (tick_text p start.frames a records before.tick) c.loop-self.text (taken c.loop-self.out) c.play_tick.new.text (taken c.play_tick.new.out)) so_far.plan
          (subst (λ h. Gathers (tick_text before.plan h a records before.tick) c.loop-self.text (taken c.loop-self.out) c.play_tick.new.text (taken c.play_tick.new.out)) so_far.frames
          (c.in-Ok.ensures.puts a records (so_far.plays a records plays))));
      writes = c.in-Ok.ensures.cause.by_result ∙ so_far.writes;
    }

pub returns-in-Err-clause-fails : goal.returns-in-Err-clause-fails
returns-in-Err-clause-fails g c a records plays =
    let taken = g.K.Sink.taken in
    let start = c.args.self.now.session in
    let before = c.loop-self.self.session in
    let so_far = c.loop-self.invariant in
    let now : c.now.result ≡ before.tick = c.now.ensures in
    breaks_tick start.plan start.frames a records start.tick before.tick c.args.end c.args.text.now c.loop-self.text
    (taken c.args.out.now) (taken c.loop-self.out) (taken c.play_tick.new.out) so_far.later (omega (arith, c.loop-self-test.true, now)) (so_far.text a records plays)
    (subst (λ p. BreaksOff (tick_text p start.frames a records before.tick) c.loop-self.text (taken c.loop-self.out) (taken c.play_tick.new.out)) so_far.plan
    (subst (λ h. BreaksOff (tick_text before.plan h a records before.tick) c.loop-self.text (taken c.loop-self.out) (taken c.play_tick.new.out)) so_far.frames
    (c.in-Err.ensures.fails a records (so_far.plays a records plays))))

pub returns-clause-puts : goal.returns-clause-puts
returns-clause-puts g c a records plays =
    let taken = g.K.Sink.taken in
    let start = c.args.self.now.session in
    let now = c.loop-self.self.session in
    let so_far = c.loop-self.invariant in
    let is : c.now.result ≡ now.tick = c.now.ensures in
    let done : c.args.end ≤ now.tick = omega (arith, c.loop-self-test.false, is) in
    gathers_to start.plan start.frames a records start.tick now.tick c.args.end c.args.text.now c.loop-self.text (taken c.args.out.now) (taken c.loop-self.out)
    (λ ahead. omega (arith, done, so_far.ahead ahead)) so_far.stays (so_far.text a records plays)
