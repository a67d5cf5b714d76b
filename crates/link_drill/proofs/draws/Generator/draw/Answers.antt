use Rattle.std.proofs.Common.{◌/◌, ap}
use Rattle.link_drill.proofs.DrawSteps.{next_seed-is}
use Rattle.link_drill.proofs.draws.Generator.draw.Goals as goal

pub returns-clause-value : goal.returns-clause-value
returns-clause-value c = λ number k at. ap (λ x. x / 65_536) (next_seed-is number k c.args.self.now.seed c.from.result c.from.ensures at)

pub returns-clause-next : goal.returns-clause-next
returns-clause-next c = λ number k at. next_seed-is number k c.args.self.now.seed c.from.result c.from.ensures at
