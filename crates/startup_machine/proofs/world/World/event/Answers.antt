use Rattle.std.proofs.Common.{sym, ap, subst}
use Rattle.startup_machine.specs.World.{SideView, WorldView, One, Two}
use Rattle.startup_machine.specs.Agreement.{Agreed}
use Rattle.startup_machine.proofs.Steps.{step-refused}
use Rattle.startup_machine.proofs.Agreements.{Agreed-happens}
use Rattle.startup_machine.proofs.world.World.event.Goals as goal

-- the world of a near and a far side, where the first end is near
abbrev first_near : SideView × SideView → WorldView
first_near sides = record { one = sides.0; two = sides.1 }

-- where the second end is near
abbrev second_near : SideView × SideView → WorldView
second_near sides = record { one = sides.1; two = sides.0 }

pub returns-then-end-eq0-clause-refused : goal.returns-then-end-eq0-clause-refused
returns-then-end-eq0-clause-refused c =
    let took = c.take_step in
    rw (← c.self.view_is) (step-refused first_near took.result c.args.event _ _ _ took.ensures.crowded.0 took.ensures.step)

pub returns-then-end-eq0-clause-agreed : goal.returns-then-end-eq0-clause-agreed
returns-then-end-eq0-clause-agreed c = λ on agreed.
    subst Agreed (sym (ap first_near c.take_step.ensures.step))
    (Agreed-happens (first_near (c.self.inside.one, c.self.inside.two)) One c.args.event on (subst Agreed (sym c.self.view_is) agreed))

pub returns-else-end-eq0-clause-refused : goal.returns-else-end-eq0-clause-refused
returns-else-end-eq0-clause-refused c =
    let took = c.take_step-else-end-eq0 in
    rw (← c.self.view_is) (step-refused second_near took.result c.args.event _ _ _ took.ensures.crowded.0 took.ensures.step)

pub returns-else-end-eq0-clause-agreed : goal.returns-else-end-eq0-clause-agreed
returns-else-end-eq0-clause-agreed c = λ on agreed.
    subst Agreed (sym (ap second_near c.take_step-else-end-eq0.ensures.step))
    (Agreed-happens (first_near (c.self.inside.one, c.self.inside.two)) Two c.args.event on (subst Agreed (sym c.self.view_is) agreed))
