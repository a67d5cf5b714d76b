use Rattle.std.proofs.Common.{◌∙◌}
use Rattle.plan_checker.proofs.Places.{delays_of, frames_of, held_number, most_number}
use Rattle.plan_checker.proofs.checked.Checked.need.Goals as goal

pub packets_held-requires-clause-frames : goal.packets_held-requires-clause-frames
packets_held-requires-clause-frames c =
    frames_of c.self.inside.plan c.args.self.now c.self.view_is c.self.invariant c.args.f _ c.requires c.at.ensures

pub packets_held-requires-clause-delays : goal.packets_held-requires-clause-delays
packets_held-requires-clause-delays c =
    delays_of c.self.inside.plan c.args.self.now c.self.view_is c.self.invariant c.args.f _ c.requires c.at.ensures

pub returns-clause-value : goal.returns-clause-value
returns-clause-value c =
    c.packets_held.ensures.value ∙ held_number c.self.inside.plan c.args.self.now c.self.view_is c.args.f _ c.at.ensures

pub returns-clause-most : goal.returns-clause-most
returns-clause-most c =
    most_number c.self.inside.plan c.args.self.now c.self.view_is c.args.f _ _ c.at.ensures c.packets_held.ensures.most
