use Rattle.std.proofs.Common.{◌∙◌, arith, pos}
use Rattle.std.proofs.lemmas.Option.{slice_get-get_or}
use Rattle.link_run_entries.proofs.Laying.{lays_none, lays_as}
use Rattle.link_run_entries.proofs.RunLines.{no_lines, run_more, value_unmarked}
use Rattle.link_run_entries.proofs.run.Run.lay_samples.Goals as goal

pub loop-sample-init : goal.loop-sample-init
loop-sample-init c =
    let run = c.args.self.now in record {
      tick = c.new-front.ensures.tick;
      carrier = c.new-front.ensures.carrier;
      number = omega arith;
      short = omega arith;
      lays = lays_as _ _ _ _ _ _ (no_lines run.tick.now.tick run.carrier run.number 0 run.samples.now) (lays_none c.args.octets.now c.args.at (omega arith));
    }

pub loop-sample-preserved : goal.loop-sample-preserved
loop-sample-preserved c =
    let run = c.args.self.now in
    let before = c.loop-sample.invariant in
    let line = c.put_line-end.ensures.lays in
    record {
      tick = c.advance.ensures.tick ∙ before.tick;
      carrier = c.advance.ensures.carrier ∙ before.carrier;
      number = omega arith;
      short = omega arith;
      lays =
          run_more run.tick.now.tick run.carrier run.number 0 run.samples.now c.loop-sample.sample-index _ _ _ _ _ _ _ _ _ _ before.lays line before.tick before.carrier before.number
          (value_unmarked run.samples.now c.loop-sample.sample-index _ (slice_get-get_or run.samples.now c.loop-sample.sample-index (record { i = pos 0; q = pos 0 }) c.loop-sample-test.true));
    }
