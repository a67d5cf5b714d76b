use Rattle.hyperframe.proofs.SyncSteps.{Acquires-push}
use Rattle.hyperframe.proofs.synchronization.Acquire.step.Goals as goal

pub returns-clause-answer : goal.returns-clause-answer
returns-clause-answer c frames h = (Acquires-push c.args.self.now c.after.result c.args.comma c.after.ensures frames h).state

pub returns-clause-stands : goal.returns-clause-stands
returns-clause-stands c = Acquires-push c.args.self.now c.after.result c.args.comma c.after.ensures
