use Rattle.std.proofs.Common.{◌∷◌, [], ◌++◌, sym, ap, ◌∙◌, subst}
use Rattle.hdlc_channel.specs.Reader.{SlowView, StandsFor}
use Rattle.hdlc_channel.proofs.StepLaw.{step_keeps}
use Rattle.hdlc_channel.proofs.slow_reader.SlowReader.push.Goals as goal

pub returns-clause-answer : goal.returns-clause-answer
returns-clause-answer c bits stands = ap (λ r. r.1) c.step.ensures ∙ (step_keeps c.args.self.now bits c.args.bit stands).0

pub returns-clause-stands : goal.returns-clause-stands
returns-clause-stands c bits stands =
    subst (λ (v : SlowView). StandsFor v (bits ++ c.args.bit ∷ [])) (ap (λ r. r.0) (sym c.step.ensures)) (step_keeps c.args.self.now bits c.args.bit stands).1
