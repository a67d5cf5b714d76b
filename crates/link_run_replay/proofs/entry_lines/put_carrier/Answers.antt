use Rattle.std.proofs.Common.{◌∙◌, ◌++◌, ap}
use Rattle.link_run_replay.proofs.Playing.{carrier_printed}
use Rattle.link_run_replay.proofs.entry_lines.put_carrier.Goals as goal

pub returns : goal.returns
returns c records stands =
    let session = c.args.session.now in
    c.put_run.ensures ∙ ap (λ lines. c.args.text.now ++ lines)
    (carrier_printed session.plan session.frames records session.tick c.args.tick.now.tick c.args.c c.leaving-leaving.result.number c.leaving-leaving.result.marks c.leaving-leaving.result.samples.now c.requires.tick
    (c.leaving-leaving.ensures.entries records stands))
