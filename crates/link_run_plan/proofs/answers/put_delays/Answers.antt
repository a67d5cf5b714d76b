use Rattle.std.proofs.Common.{◌∙◌, length, ap, arith}
use Rattle.carrier_plan.specs.declared.plan.Plan.{Plan}
use Rattle.link_text.proofs.GatheredLines.{gathers_place, breaks_place}
use Rattle.link_run_plan.specs.Texts.{delay_line}
use Rattle.link_run_plan.proofs.answers.put_delays.Goals as goal

pub loop-c-preserved : goal.loop-c-preserved
loop-c-preserved g c =
    let taken = g.K.Sink.taken in record {
      text =
          gathers_place (delay_line c.args.checked.now) c.args.text.now c.loop-c.text (taken c.args.out.now) (taken c.loop-c.out) c.loop-c.c
          c.make_room.new.self c.put_delay.new.text (taken c.make_room.new.out) c.loop-c.invariant.text c.in-Ok.ensures.gathers c.put_delay.ensures;
      writes = c.in-Ok.ensures.cause.by_result ∙ c.loop-c.invariant.writes;
    }

pub returns-in-Err-clause-fails : goal.returns-in-Err-clause-fails
returns-in-Err-clause-fails g c =
    let taken = g.K.Sink.taken in
    breaks_place (delay_line c.args.checked.now) c.args.text.now c.loop-c.text (taken c.args.out.now) (taken c.loop-c.out) c.loop-c.c
    (length c.args.checked.now.carriers) (taken c.make_room.new.out) (omega (arith, ap (λ (p : Plan). length p.carriers) c.plan.ensures.same)) c.loop-c.invariant.text c.in-Err.ensures.front
