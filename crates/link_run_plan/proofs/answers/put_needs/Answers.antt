use Rattle.std.proofs.Common.{◌∙◌, length, ap, arith}
use Rattle.carrier_plan.specs.declared.plan.Plan.{Plan}
use Rattle.link_text.proofs.GatheredLines.{gathers_place, breaks_place}
use Rattle.link_run_plan.specs.Texts.{need_line}
use Rattle.link_run_plan.proofs.answers.put_needs.Goals as goal

pub loop-f-preserved : goal.loop-f-preserved
loop-f-preserved g c =
    let taken = g.K.Sink.taken in record {
      text =
          gathers_place (need_line c.args.checked.now) c.args.text.now c.loop-f.text (taken c.args.out.now) (taken c.loop-f.out) c.loop-f.f
          c.make_room.new.self c.put_need.new.text (taken c.make_room.new.out) c.loop-f.invariant.text c.in-Ok.ensures.gathers c.put_need.ensures;
      writes = c.in-Ok.ensures.cause.by_result ∙ c.loop-f.invariant.writes;
    }

pub returns-in-Err-clause-fails : goal.returns-in-Err-clause-fails
returns-in-Err-clause-fails g c =
    let taken = g.K.Sink.taken in
    breaks_place (need_line c.args.checked.now) c.args.text.now c.loop-f.text (taken c.args.out.now) (taken c.loop-f.out) c.loop-f.f
    (length c.args.checked.now.flows) (taken c.make_room.new.out) (omega (arith, ap (λ (p : Plan). length p.flows) c.plan.ensures.same)) c.loop-f.invariant.text c.in-Err.ensures.front
