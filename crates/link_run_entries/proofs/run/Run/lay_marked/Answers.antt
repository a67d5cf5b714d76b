use Rattle.std.proofs.Common.{◌∙◌, arith, pos}
use Rattle.std.proofs.lemmas.Option.{slice_get-get_or}
use Rattle.link_run_entries.proofs.Laying.{lays_none, lays_as}
use Rattle.link_run_entries.proofs.RunLines.{no_lines, run_more, value_of_marks}
use Rattle.link_run_entries.proofs.run.Run.lay_marked.Goals as goal

pub loop-i-init : goal.loop-i-init
loop-i-init c =
    let run = c.args.self.now in record {
      tick = c.new-front.ensures.tick;
      carrier = c.new-front.ensures.carrier;
      number = omega arith;
      short = omega arith;
      lays = lays_as _ _ _ _ _ _ (no_lines run.tick.now.tick run.carrier run.number run.marks run.samples.now) (lays_none c.args.octets.now c.args.at (omega arith));
    }

pub loop-i-preserved : goal.loop-i-preserved
loop-i-preserved c =
    let run = c.args.self.now in
    let before = c.loop-i.invariant in
    let line = c.put_line_or_mark-end.ensures.lays in
    record {
      tick = c.advance.ensures.tick ∙ before.tick;
      carrier = c.advance.ensures.carrier ∙ before.carrier;
      number = omega arith;
      short = omega arith;
      lays =
          run_more run.tick.now.tick run.carrier run.number run.marks run.samples.now c.loop-i.i _ _ _ _ _ _ _ _ _ _ before.lays line before.tick before.carrier before.number
          (value_of_marks run.marks run.samples.now c.loop-i.i c.is_marked.result _ c.is_marked.ensures (slice_get-get_or run.samples.now c.loop-i.i (record { i = pos 0; q = pos 0 }) c.loop-i-test.true));
    }
