use Rattle.std.proofs.Common.{arith}
use Rattle.carrier_plan.specs.declared.plan.Flow.{Flow}
use Rattle.link_receiver.proofs.OctetsInHand.{item, word_fits}
use Rattle.link_receiver.proofs.parts.control_word.Goals as goal

pub front-requires : goal.front-requires
front-requires g c =
    let d : Flow = item c.args.plan.now.flows c.args.f c.requires.flow in
    let words = c.requires.words in
    let fits = word_fits c.args.plan.now c.args.f _ d (c.requires.has_control d) (c.octets_of.ensures.whole c.in-Some.octets c.in-Some.is d) in
    omega (arith, fits, words)
