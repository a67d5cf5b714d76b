use Rattle.link_run.proofs.run.drill_alone.Goals as goal

pub returns-clause-promises : goal.returns-clause-promises
returns-clause-promises g c = c.drill_number.ensures.promises (g.H.Shelf.shown c.args._shelf.now)
