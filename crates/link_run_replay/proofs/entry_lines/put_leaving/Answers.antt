use Rattle.std.proofs.Common.{◌≡◌, ◌∙◌, ◌++◌, List, ℕ, length, subst, sym, ap, arith}
use Rattle.link_receiver.specs.Output.{entries_of}
use Rattle.link_text.specs.Gathered.{Gathers, BreaksOff}
use Rattle.link_text.specs.Printed.{lines_below}
use Rattle.link_run_replay.specs.EntryLines.{entry_lines}
use Rattle.link_text.proofs.GatheredLines.{gathers_place, breaks_place}
use Rattle.link_run_replay.proofs.Playing.{lines_at}
use Rattle.link_run_replay.proofs.entry_lines.put_leaving.Goals as goal

pub loop-c-preserved : goal.loop-c-preserved
loop-c-preserved g c =
    let taken = g.K.Sink.taken in
    let session = c.args.session.now in record {
      text = λ records stands.
          gathers_place (λ place. entry_lines (entries_of session.plan session.frames records c.args.tick place)) c.args.text.now c.loop-c.text
          (taken c.args.out.now) (taken c.loop-c.out) c.loop-c.c c.make_room.new.self c.put_carrier.new.text (taken c.make_room.new.out)
          (c.loop-c.invariant.text records stands) c.in-Ok.ensures.gathers
          (c.put_carrier.ensures records stands ∙ ap (λ tick. c.make_room.new.self ++ entry_lines (entries_of session.plan session.frames records tick c.loop-c.c)) c.new-printed.ensures);
      writes = c.in-Ok.ensures.cause.by_result ∙ c.loop-c.invariant.writes;
    }

pub returns-in-Err-clause-fails : goal.returns-in-Err-clause-fails
returns-in-Err-clause-fails g c = λ records stands.
    let taken = g.K.Sink.taken in
    let session = c.args.session.now in
    subst (λ (text : List ℕ). BreaksOff text c.args.text.now (taken c.args.out.now) (taken c.make_room.new.out)) (sym (lines_at session.plan session.frames records c.args.tick))
    (breaks_place (λ place. entry_lines (entries_of session.plan session.frames records c.args.tick place)) c.args.text.now c.loop-c.text
    (taken c.args.out.now) (taken c.loop-c.out) c.loop-c.c (length session.plan.carriers) (taken c.make_room.new.out) (omega (arith, c.requires.carriers, c.loop-c-test.true))
    (c.loop-c.invariant.text records stands) c.in-Err.ensures.front)

pub returns-clause-puts : goal.returns-clause-puts
returns-clause-puts g c = λ records stands.
    let taken = g.K.Sink.taken in
    let session = c.args.session.now in
    let within = c.loop-c.auto.c-end in
    let done : c.loop-c.c ≡ c.args.carriers = omega (arith, c.loop-c-test.false) in
    subst (λ (text : List ℕ). Gathers text c.args.text.now (taken c.args.out.now) c.loop-c.text (taken c.loop-c.out)) (sym (lines_at session.plan session.frames records c.args.tick))
    (subst (λ (n : ℕ). Gathers (lines_below (λ place. entry_lines (entries_of session.plan session.frames records c.args.tick place)) n) c.args.text.now (taken c.args.out.now) c.loop-c.text (taken c.loop-c.out))
    (done ∙ c.requires.carriers) (c.loop-c.invariant.text records stands))
