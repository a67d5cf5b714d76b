use Rattle.std.proofs.Common.{◌∙◌, ◌++◌, length, ap, arith}
use Rattle.std.specs.Prelude.{slice_get}
use Rattle.link_run_replay.specs.EntryLines.{line_of_flow}
use Rattle.link_text.proofs.GatheredLines.{gathers_place, breaks_place}
use Rattle.link_run_replay.proofs.Playing.{flow_counted}
use Rattle.link_run_replay.proofs.entry_lines.put_flows.Goals as goal

pub loop-f-preserved : goal.loop-f-preserved
loop-f-preserved g c =
    let taken = g.K.Sink.taken in
    let session = c.args.session.now in record {
      text = λ records stands.
          gathers_place (λ place. line_of_flow session.plan session.frames records place (slice_get session.plan.flows place)) c.args.text.now c.loop-f.text
          (taken c.args.out.now) (taken c.loop-f.out) c.loop-f.f c.make_room.new.self c.put_flow.new.text (taken c.make_room.new.out)
          (c.loop-f.invariant.text records stands) c.in-Ok.ensures.gathers
          (c.put_flow.ensures ∙ ap (λ line. c.make_room.new.self ++ line)
          (flow_counted session.plan session.frames records c.loop-f.f c.counts.result.taken c.counts.result.packets (omega (arith, c.requires, c.loop-f-test.true))
          (λ flow is. c.counts.ensures records flow stands is)));
      writes = c.in-Ok.ensures.cause.by_result ∙ c.loop-f.invariant.writes;
    }

pub returns-in-Err-clause-fails : goal.returns-in-Err-clause-fails
returns-in-Err-clause-fails g c = λ records stands.
    let taken = g.K.Sink.taken in
    let session = c.args.session.now in
    breaks_place (λ place. line_of_flow session.plan session.frames records place (slice_get session.plan.flows place)) c.args.text.now c.loop-f.text
    (taken c.args.out.now) (taken c.loop-f.out) c.loop-f.f (length session.plan.flows) (taken c.make_room.new.out) (omega (arith, c.requires, c.loop-f-test.true))
    (c.loop-f.invariant.text records stands) c.in-Err.ensures.front
