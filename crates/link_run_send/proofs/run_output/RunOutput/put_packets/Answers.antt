use Rattle.std.proofs.Common.{◌≡◌, ◌∙◌, ◌<◌, length, take, subst, arith}
use Rattle.std.specs.List.{flat_map}
use Rattle.std.proofs.lemmas.List.{take_all}
use Rattle.link_text.specs.Gathered.{Gathers}
use Rattle.link_run_send.specs.SentText.{flow_text, packets_text}
use Rattle.link_run_send.proofs.GatheredItems.{breaks_next, gathers_next}
use Rattle.link_run_send.proofs.run_output.RunOutput.put_packets.Goals as goal

pub returns-in-Err-clause-fails : goal.returns-in-Err-clause-fails
unfolding packets_text
returns-in-Err-clause-fails g c σ good stands =
    let s = c.args.self.now.sender in
    let taken = g.K.Sink.taken in
    let within : c.loop-f.f < length s.plan.flows = omega (arith, c.loop-f-test.true, c.args.self.now.of_flows) in
    breaks_next (flow_text s.plan s.frames σ c.args.tick) s.plan.flows c.loop-f.f c.args.text.now c.loop-f.text (taken c.args.out.now) (taken c.loop-f.out) (taken c.put_flow.new.out) within
    (c.loop-f.invariant.text σ good stands) (λ flow read. c.in-Err.ensures.fails σ flow good stands read)

pub loop-f-preserved : goal.loop-f-preserved
loop-f-preserved g c =
    let s = c.args.self.now.sender in
    let taken = g.K.Sink.taken in
    let within : c.loop-f.f < length s.plan.flows = omega (arith, c.loop-f-test.true, c.args.self.now.of_flows) in record {
      text = λ σ good stands.
          gathers_next (flow_text s.plan s.frames σ c.args.tick) s.plan.flows c.loop-f.f c.args.text.now c.loop-f.text (taken c.args.out.now) (taken c.loop-f.out) (taken c.put_flow.new.out) within
          (c.loop-f.invariant.text σ good stands) c.put_flow.new.text (λ flow read. c.in-Ok.ensures.puts σ flow good stands read);
      writes = c.in-Ok.ensures.cause.by_result ∙ c.loop-f.invariant.writes;
    }

pub returns-clause-puts : goal.returns-clause-puts
unfolding packets_text
returns-clause-puts g c σ good stands =
    let s = c.args.self.now.sender in
    let taken = g.K.Sink.taken in
    let all : take c.loop-f.f s.plan.flows ≡ s.plan.flows = take_all c.loop-f.f s.plan.flows (omega (arith, c.loop-f-test.false, c.args.self.now.of_flows)) in
    subst (λ flows. Gathers (flat_map (flow_text s.plan s.frames σ c.args.tick) flows) c.args.text.now (taken c.args.out.now) c.loop-f.text (taken c.loop-f.out)) all (c.loop-f.invariant.text σ good stands)
