use Rattle.std.proofs.Common.{◌+◌, ◌∙◌, arith}
use Rattle.std.proofs.lemmas.List.{length-drop}
use Rattle.link_run_send.specs.Sends.{BetweenLines}
use Rattle.link_run_send.specs.Sent.{sent_lines}
use Rattle.link_run_send.proofs.AheadLines.{reads_on}
use Rattle.link_run_send.proofs.sample_run.SampleRun.read_samples.Goals as goal
use Rattle.link_run_send.proofs.sample_run.SampleRun.read_samples.Goals.{else-loop-self-test, then-loop-self-test+then-last-eq0}

pub loop-self-preserved : goal.loop-self-preserved
loop-self-preserved c =
    let octets = c.args.octets.now in
    let so_far = c.loop-self.invariant in
    let most = c.read_carrier-end in
    let last = c.finish_carrier-last in
    let same = so_far.same in
    let a = c.loop-self.end in
    let b = most.result.octets in record {
      within = omega (arith, last.ensures.within, most.ensures.within, so_far.within, length-drop (a + b) octets, length-drop a octets);
      same = record {
        header = last.ensures.same.header ∙ most.ensures.same.header ∙ same.header;
        sampled = last.ensures.same.sampled ∙ most.ensures.same.sampled ∙ same.sampled;
        tick = last.ensures.same.tick ∙ most.ensures.same.tick ∙ same.tick;
        made = last.ensures.same.made ∙ most.ensures.same.made ∙ same.made;
        left = omega (arith, last.ensures.same.left, most.ensures.same.left, same.left);
      };
      reads = λ s between.
          reads_on sent_lines s octets a _ b most.result.lines last.result.octets last.result.lines _ (BetweenLines c.loop-self.self) (BetweenLines most.new.self) (BetweenLines last.new.self)
          (so_far.reads s between) most.ensures.reads last.ensures.reads (omega (arith, last.ensures.same.left, most.ensures.same.left, same.left));
    }

pub returns-clause-reads : goal.returns-clause-reads
returns-clause-reads c = λ s between.
    let so_far = c.loop-self.invariant in
    elim c.loop-self-test.branch [
      | else-loop-self-test w ↦ rw (w.self-is, w.end-is) (so_far.reads s between)
      | then-loop-self-test+then-last-eq0 w ↦
          let octets = c.args.octets.now in
          let most = w.read_carrier-end in
          let last = w.finish_carrier-last in
          rw (w.self-is, w.end-is)
          (reads_on sent_lines s octets c.loop-self.end _ most.result.octets most.result.lines last.result.octets last.result.lines _ (BetweenLines c.loop-self.self) (BetweenLines most.new.self)
          (BetweenLines last.new.self) (so_far.reads s between) most.ensures.reads last.ensures.reads (omega (arith, last.ensures.same.left, most.ensures.same.left, so_far.same.left)))
    ]
