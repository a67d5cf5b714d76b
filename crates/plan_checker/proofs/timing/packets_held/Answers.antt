use Rattle.std.proofs.Common.{◌≡◌, arith, subst, sym}
use Rattle.std.proofs.lemmas.Grind.{common_steps}
use Rattle.link_base.specs.Window.{IsMostHeld, most_held}
use Rattle.plan_checker.proofs.Held.{IsMostHeld-quotient}
use Rattle.plan_checker.proofs.timing.packets_held.Goals as goal

pub returns-clause-most : goal.returns-clause-most
returns-clause-most c =
    let f = c.args.flow.now in
    let value : c.div_ceil.result ≡ most_held f.frames f.lmin c.args.playout = grind (arith, common_steps) in
    subst (IsMostHeld f.frames f.lmin c.args.playout) (sym value) (IsMostHeld-quotient f.frames f.lmin c.args.playout c.requires.frames c.requires.delays)
