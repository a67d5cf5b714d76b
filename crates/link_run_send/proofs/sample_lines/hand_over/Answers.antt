use Rattle.plan_checker.specs.Run.{samples_before}
use Rattle.link_run_send.proofs.HandedOver.{handed_over}
use Rattle.link_run_send.proofs.sample_lines.hand_over.Goals as goal

pub returns-clause-ok : goal.returns-clause-ok
returns-clause-ok c =
    let p = c.args.sender.now.plan in
    handed_over p c.hand_in.result c.args.c (samples_before p c.args.c c.args.sender.now.tick) c.args.samples.now c.requires.carrier c.requires.within c.hand_in.ensures.range c.hand_in.ensures.ok

pub returns-clause-stands : goal.returns-clause-stands
returns-clause-stands c =
    let p = c.args.sender.now.plan in
    handed_over p c.hand_in.result c.args.c (samples_before p c.args.c c.args.sender.now.tick) c.args.samples.now c.requires.carrier c.requires.within c.hand_in.ensures.range c.hand_in.ensures.stands
