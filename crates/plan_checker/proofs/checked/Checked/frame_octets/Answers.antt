use Rattle.std.proofs.Common.{◌∙◌}
use Rattle.plan_checker.proofs.Places.{few_of, few_pieces, known_of, octets_number}
use Rattle.plan_checker.proofs.checked.Checked.frame_octets.Goals as goal

pub octets_of_frame-requires-clause-known : goal.octets_of_frame-requires-clause-known
octets_of_frame-requires-clause-known c =
    known_of c.self.inside.plan c.args.self.now c.self.view_is c.self.invariant c.args.f _ c.requires c.at.ensures

pub octets_of_frame-requires-clause-few : goal.octets_of_frame-requires-clause-few
octets_of_frame-requires-clause-few c =
    few_of c.self.inside.plan c.args.self.now c.self.view_is c.self.invariant c.args.f _ c.requires c.at.ensures

pub returns : goal.returns
returns c =
    c.octets_of_frame.ensures.value ∙ octets_number c.self.inside.plan c.args.self.now c.self.view_is c.args.f _ c.at.ensures

pub octets_of_frame-requires-clause-pieces : goal.octets_of_frame-requires-clause-pieces
octets_of_frame-requires-clause-pieces c = few_pieces c.self.inside.plan (λ r _. c.self.invariant r)
