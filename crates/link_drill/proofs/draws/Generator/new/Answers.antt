use Rattle.std.proofs.Common.{sym}
use Rattle.link_drill.proofs.DrawSteps.{seed_after-none}
use Rattle.link_drill.proofs.draws.Generator.new.Goals as goal

pub returns : goal.returns
returns c = sym (seed_after-none c.args.number)
