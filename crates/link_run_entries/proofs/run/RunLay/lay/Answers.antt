use Rattle.std.proofs.Common.{rules, ◌≡◌, ◌∙◌, length, ap, arith}
use Rattle.link_run_entries.specs.SampleLines.{run_lines}
use Rattle.link_run_entries.proofs.Laying.{lays_none, lays_as}
use Rattle.link_run_entries.proofs.RunLines.{no_lines}
use Rattle.link_run_entries.proofs.run.RunLay.lay.Goals as goal

pub returns-then-is_empty : goal.returns-then-is_empty
returns-then-is_empty c =
    let run = c.args.self.now in
    let empty : 0 ≡ length run.samples.now = search rules in
    lays_as _ _ _ _ _ _
    (no_lines run.tick.now.tick run.carrier run.number run.marks run.samples.now ∙ ap (run_lines run.tick.now.tick run.carrier run.number run.marks run.samples.now) empty)
    (lays_none c.args.octets.now c.args.at (omega arith))
