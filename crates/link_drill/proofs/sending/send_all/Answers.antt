use Rattle.std.proofs.Common.{◌∙◌, refl, sym}
use Rattle.link_drill.specs.DrillPlan.{drill_flow}
use Rattle.link_drill.specs.DrillStream.{drill_stream}
use Rattle.link_drill.proofs.SendSteps.{packets_of-none}
use Rattle.link_drill.proofs.sending.send_all.Goals as goal

pub loop-init : goal.loop-init
loop-init c =
    let Y = c.args.words in (
      c.requires.run,
      refl,
      c.requires.tick,
      c.requires.before,
      c.new-packets.ensures.items ∙ sym (packets_of-none c.args.sender.now.plan (drill_stream Y 256 c.args.drawn.now) (drill_flow Y)),
    )
