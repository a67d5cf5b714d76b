use Rattle.hyperframe.proofs.LossSteps.{CountsLoss-push}
use Rattle.hyperframe.proofs.loss.Los.step.Goals as goal

pub returns-clause-answer : goal.returns-clause-answer
returns-clause-answer c past h =
    let added = c.add.ensures in
    (CountsLoss-push c.args.self.now c.add.new.self c.is_lost-self.result c.args.first c.args.violations
    added.frames added.violations added.lost c.is_lost-self.ensures past h).2

pub returns-clause-stands : goal.returns-clause-stands
returns-clause-stands c past h =
    let added = c.add.ensures in
    let all = CountsLoss-push c.args.self.now c.add.new.self c.is_lost-self.result c.args.first c.args.violations
    added.frames added.violations added.lost c.is_lost-self.ensures past h in
    record { frames = all.0; violations = all.1; lost = all.2 }
