use Rattle.std.proofs.Common.{◌∙◌, sym, subst, [], ◌∷◌, ◌++◌}
use Rattle.ethernet_channel.specs.Keeps.{StandsFor}
use Rattle.ethernet_channel.proofs.BitSteps.{StandsFor-push}
use Rattle.ethernet_channel.proofs.reader.FastReader.push.Goals as goal

pub returns-clause-answer : goal.returns-clause-answer
returns-clause-answer c bits h = c.take_bit.ensures.event ∙ (StandsFor-push c.args.self.now bits c.args.bit h).event

pub returns-clause-stands : goal.returns-clause-stands
returns-clause-stands c bits h =
    subst (λ k. StandsFor k (bits ++ c.args.bit ∷ [])) (sym c.take_bit.ensures.kept)
    (StandsFor-push c.args.self.now bits c.args.bit h).kept
