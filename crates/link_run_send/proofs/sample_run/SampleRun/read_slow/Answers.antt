use Rattle.std.proofs.Common.{◌≡◌, ℕ, ◌+◌, ◌<◌, ◌≤◌, List, take, length, length-take, refl, sym, ap, ◌∙◌, subst, arith, inl, inr}
use Rattle.std.proofs.lemmas.Bool.{cases_lt}
use Rattle.link_run_capture.specs.declared.header.Header.{Header}
use Rattle.link_sender.specs.HandedIn.{with_slow}
use Rattle.link_sender.specs.Stream.{Stream}
use Rattle.hdlc_channel.specs.SlowStream as slow
use Rattle.plan_checker.specs.Rules.{IsGood}
use Rattle.link_run_send.specs.Sent.{has_samples, with_stream}
use Rattle.link_run_send.proofs.Queued.{at_start, is_zero, or_first, or_second, sampled_at, slow_announced, slow_no_octets, slow_queued, slow_refused, slow_room, slow_stream, slow_too_long, slow_too_many, slow_unsampled}
use Rattle.link_run_send.proofs.sample_run.SampleRun.read_slow.Goals as goal
use Rattle.link_run_send.proofs.sample_run.SampleRun.read_slow.Goals.{then-self-via-then-self, then-self-via-else-self+then-now-gt0, then-self-via-else-self+else-now-gt0+then-self-eq0}

pub returns-then-self-clause-reads : goal.returns-then-self-clause-reads
returns-then-self-clause-reads c = λ s between.
    let w = c.args.self.now in
    let keeps = between.keeps in
    elim c.then-self.branch [
      | then-self-via-then-self b ↦ slow_refused s c.args.digits.now (or_first _ _ (sym keeps.sampled ∙ b.if-self.true))
      | then-self-via-else-self+then-now-gt0 b ↦
          slow_refused s c.args.digits.now (or_first _ _ (sym keeps.sampled ∙ sampled_at w s between c.requires.version (omega (arith, b.now.ensures, b.if-now-gt0.true))))
      | then-self-via-else-self+else-now-gt0+then-self-eq0 b ↦
          slow_refused s c.args.digits.now (or_second (has_samples s.stream) _ (is_zero s.header.announce.hdlc (ap (λ (h : Header). h.announce.hdlc) keeps.header ∙ b.if-self-eq0.true)))
    ]

pub returns-in_default-clause-reads : goal.returns-in_default-clause-reads
returns-in_default-clause-reads c = λ s between.
    let w = c.args.self.now in
    slow_no_octets s c.args.digits.now (slow_unsampled w s between.keeps c.if-self.false) (slow_announced w s between.keeps c.if-self-eq0.false) c.in_default.ensures.none

pub returns-then-length-gt-LONGEST_SLOW-clause-reads : goal.returns-then-length-gt-LONGEST_SLOW-clause-reads
returns-then-length-gt-LONGEST_SLOW-clause-reads c = λ s between.
    let w = c.args.self.now in
    let out = c.octets.new.out in
    slow_too_long s c.args.digits.now (slow_unsampled w s between.keeps c.if-self.false) (slow_announced w s between.keeps c.if-self-eq0.false) (take c.in-Some.length out) c.in-Some.ensures.value
    (omega (arith, c.if-length-gt-LONGEST_SLOW.true, length-take c.in-Some.length out, c.in-Some.ensures.count, c.requires.short))

pub returns-in-Ok-clause-reads : goal.returns-in-Ok-clause-reads
returns-in-Ok-clause-reads c = λ s between.
    let w = c.args.self.now in
    let keeps = between.keeps in
    let frame = take c.in-Some.length c.octets.new.out in
    let same = c.in-Ok.ensures.same in
    let first : w.output.sender.tick ≡ 0 = omega (arith, c.now.ensures, c.if-now-gt0.false) in
    let queue = c.in-Ok.ensures.queue keeps.handed keeps.sends.stands in
    let none = slow_unsampled w s keeps c.if-self.false in
    let announced = slow_announced w s keeps c.if-self-eq0.false in
    let long = length-take c.in-Some.length c.octets.new.out in
    let short : length frame ≤ 1500 = omega (arith, long, c.if-length-gt-LONGEST_SLOW.false) in
    let fits : length frame + 2 ≤ slow.room_of s.stream.slow =
    elim (cases_lt (slow.room_of w.output.sender.slow.queue) (length frame + 2)) [
      | inl full ↦ absurd (let e = c.in-Ok.ensures.full.1 full in cc)
      | inr room ↦ subst (λ (q : List (List ℕ)). length frame + 2 ≤ slow.room_of q) (queue ∙ sym (slow_stream w s keeps)) room
    ]
    in
    let less = slow_room s.stream frame fits in (
      with_stream s (with_slow s.stream frame),
      slow_queued s c.args.digits.now none announced frame c.in-Some.ensures.value short fits,
      record {
        keeps = record {
          plan = keeps.plan;
          header = keeps.header;
          output = keeps.output;
          handed = with_slow keeps.handed frame;
          sends = record {
            good = subst IsGood (sym same.plan) keeps.sends.good;
            stands = c.in-Ok.ensures.stands keeps.handed keeps.sends.stands;
            spelled = λ symbols.
                at_start w.output.rd w.output.sender.plan c.queue_slow.new.self.plan keeps.handed (with_slow keeps.handed frame) w.output.sender.tick c.queue_slow.new.self.tick first (same.tick ∙ first)
                (keeps.sends.spelled symbols);
          };
          stream = ap (λ (σ : Stream). with_slow σ frame) keeps.stream;
          settled = keeps.settled ∙ sym same.tick;
          sampled = keeps.sampled;
          room = omega (arith, long, c.in-Some.ensures.count, c.requires.short, c.saturating_sub-self.ensures, keeps.room, less, fits);
        };
        made = same.tick ∙ between.made;
        fewer = omega (arith, long, c.in-Some.ensures.count, c.requires.short, c.saturating_sub-self.ensures, keeps.room, less, fits);
      },
    )

pub returns-in-Err-clause-reads : goal.returns-in-Err-clause-reads
returns-in-Err-clause-reads c = λ s between.
    let w = c.args.self.now in
    let keeps = between.keeps in
    let frame = take c.in-Some.length c.octets.new.out in
    let queue = c.in-Err.ensures.queue keeps.handed keeps.sends.stands ∙ sym (slow_stream w s keeps) in
    slow_too_many s c.args.digits.now (slow_unsampled w s keeps c.if-self.false) (slow_announced w s keeps c.if-self-eq0.false) frame c.in-Some.ensures.value
    (subst (λ (q : List (List ℕ)). slow.room_of q < length frame + 2) queue (c.in-Err.ensures.full.0 refl))
