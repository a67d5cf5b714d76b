use Rattle.std.proofs.Common.{refl, arith, ap, length, subst}
use Rattle.link_text.specs.Lines.{HasNoFeed}
use Rattle.link_text.specs.LineBuffer.{IsFirstFeed}
use Rattle.link_text.proofs.LineLemmas.{far_feed, HasNoFeed-take}
use Rattle.link_text.proofs.buffer.LineBuffer.cut.Goals as goal

pub returns-in-Some-2-clause-cuts : goal.returns-in-Some-2-clause-cuts
returns-in-Some-2-clause-cuts c =
    let first = subst (λ rest. IsFirstFeed rest c.in-Some.place) c.rest-rest.ensures.rest c.in-Some.ensures.some in
    (omega (arith, first.within), far_feed c.args.self.now.rest c.in-Some.place 4097 first (omega arith), refl)

pub returns-in-None-clause-cuts : goal.returns-in-None-clause-cuts
returns-in-None-clause-cuts c =
    let none = subst HasNoFeed c.rest-rest.ensures.rest c.in-None.ensures.none in
    (omega (arith, ap length c.rest-rest.ensures.rest), HasNoFeed-take c.args.self.now.rest 4097 none, refl)
